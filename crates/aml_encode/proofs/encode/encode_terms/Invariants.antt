use Rattle.aml_encode.proofs.EachWritten.{Appended}
use Rattle.aml_encode.proofs.encode.encode_terms.Given as goal

-- the terms that are appended so far
abbrev pub invariant-terms : goal.invariant-terms
invariant-terms l = Appended l.terms l.fn.into l.term-index l.into
