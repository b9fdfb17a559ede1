-- A term in a list is smaller than what holds the list, so a recursion by way of the list ends.
use Rattle.std.proofs.Common.{ℕ, ◌≤◌, List, sym, subst}
use denote.Param.Weighed.{most, at_most}
use Rattle.aml_terms.proofs.term.Term.TheLaws.{the_size}
use Rattle.aml_terms.specs.declared.term.Term.{Term}
use Rattle.aml_encode.proofs.Measuring.{At}

pub smaller : (ts : List Term) (i : ℕ) (t : Term) → At ts i t → the_size t ≤ most the_size ts
smaller ts i t here = subst (λ x. the_size x ≤ most the_size ts) (sym here.is) (at_most the_size ts i t here.within)
