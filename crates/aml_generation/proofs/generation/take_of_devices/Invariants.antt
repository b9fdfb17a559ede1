use Rattle.aml_generation.specs.Generation.{taken_of_device}
use Rattle.aml_generation.proofs.Walks.{Walked, tells}
use Rattle.aml_generation.proofs.generation.take_of_devices.Given as goal

-- none of the terms so far is a device that tells an address
abbrev pub invariant-terms : goal.invariant-terms
invariant-terms l = Walked (tells taken_of_device) l.initial.terms l.place l.terms
