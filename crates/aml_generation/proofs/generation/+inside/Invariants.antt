use Rattle.aml_generation.specs.Generation.{taken_inside}
use Rattle.aml_generation.proofs.Walks.{Walked, tells}
use Rattle.aml_generation.proofs.generation.+inside.Given as goal

-- none of the terms so far tells an address
abbrev pub invariant-take_generation-terms : goal.invariant-take_generation-terms
invariant-take_generation-terms l = Walked (tells taken_inside) l.initial.terms l.place l.terms
