use Rattle.aml_generation.specs.Generation.{is_address}
use Rattle.aml_generation.proofs.Walks.{Walked}
use Rattle.aml_generation.proofs.generation.take_of_names.Given as goal

-- none of the terms so far is a name `ADDR`
abbrev pub invariant-terms : goal.invariant-terms
invariant-terms l = Walked is_address l.initial.terms l.place l.terms
