use Rattle.std.proofs.Common.{arith}
use Rattle.std.proofs.lemmas.Bool.{false≢true}
use Rattle.inventory_items.proofs.EqualItems.{same_at}
use Rattle.inventory_items.proofs.records.are_same_texts.Goals as goal

-- The texts at this place are not equal, so the lists are not.
pub returns-then-not-is_same : goal.returns-then-not-is_same
returns-then-not-is_same c = (
  λ yes. absurd (false≢true yes),
  λ same.
      c.if-not-is_same.ensures.1
      (same_at (λ text. text.now) c.args.left.now c.args.right.now c.loop-at.at _ _ same (omega arith) (omega arith) c.index-left-at.is
      c.index-right-at.is),
)
