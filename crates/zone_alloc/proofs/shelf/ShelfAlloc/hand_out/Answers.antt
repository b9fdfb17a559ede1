use Rattle.std.proofs.Common.{◌≡◌, ℕ, ◌+◌, length, subst, sym, ap, ◌∙◌}
use Rattle.std.proofs.lemmas.List.{length_push}
use Rattle.zone_alloc.specs.Words.{IsAtWord}
use Rattle.zone_alloc.proofs.shelf.ShelfAlloc.hand_out.Goals as goal

pub invariant_of-self : goal.invariant_of-self
invariant_of-self c =
    let kept = rw c.in-Some.is at c.self.invariant in
    let one_more : length c.push.new.self ≡ length c.in-Some.handed + 1 = ap length c.push.ensures ∙ length_push c.in-Some.handed _ in
    (kept.0, subst (λ (k : ℕ). IsAtWord k c.take_word.new.self) (sym one_more) (c.take_word.ensures.word (length c.in-Some.handed) kept.1))
