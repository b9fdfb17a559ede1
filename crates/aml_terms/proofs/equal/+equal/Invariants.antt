use Rattle.std.proofs.Common.{◌≡◌, take}
use Rattle.aml_terms.proofs.equal.+equal.Given as goal

-- the terms before this one are equal
abbrev pub invariant-are_all_equal-terms : goal.invariant-are_all_equal-terms
invariant-are_all_equal-terms l = take l.at l.left ≡ take l.at l.right
