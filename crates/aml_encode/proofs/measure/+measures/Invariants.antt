use Rattle.aml_encode.proofs.Measuring.{Halfway}
use Rattle.aml_encode.proofs.measure.+measures.Given as goal

-- the terms that are measured so far
abbrev pub invariant-measure_body-terms : goal.invariant-measure_body-terms
invariant-measure_body-terms l = Halfway l.fn.front l.terms l.fn.sizes l.term-index l.body l.sizes
