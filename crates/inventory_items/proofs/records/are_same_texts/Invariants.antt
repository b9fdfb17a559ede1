use Rattle.std.proofs.Common.{◌≡◌, map, take}
use Rattle.inventory_items.proofs.records.are_same_texts.Given as goal

-- the texts before this one are equal
abbrev pub invariant-loop-at : goal.invariant-loop-at
invariant-loop-at l = map (λ text. text.now) (take l.at l.left) ≡ map (λ text. text.now) (take l.at l.right)
