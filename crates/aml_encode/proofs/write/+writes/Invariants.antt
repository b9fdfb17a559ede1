use Rattle.aml_encode.proofs.Writing.{Partway}
use Rattle.aml_encode.proofs.write.+writes.Given as goal

-- the terms that are written so far
abbrev pub invariant-write_all-terms : goal.invariant-write_all-terms
invariant-write_all-terms l = Partway l.terms l.fn.sizes l.fn.into l.term-index l.sizes l.into
