use Rattle.std.proofs.Common.{arith}
use Rattle.aml_encode.proofs.EachWritten.{well_formed, one_more, not_short, all_appended}
use Rattle.aml_encode.proofs.Measuring.{At}
use Rattle.aml_encode.proofs.encode.encode_terms.Goals as goal

pub encode_term-requires : goal.encode_term-requires
encode_term-requires c =
    let here : At c.args.terms.now c.terms.term-index c.term-item.result = record { within = c.terms-test.true; is = c.term-item.is } in
    well_formed _ _ _ _ _ here c.terms.invariant

pub returns-in-Err-clause-too_long : goal.returns-in-Err-clause-too_long
returns-in-Err-clause-too_long c same =
    let here : At c.args.terms.now c.terms.term-index c.term-item.result = record { within = c.terms-test.true; is = c.term-item.is } in
    not_short _ _ _ _ _ here c.terms.invariant (c.in-Err.ensures.too_long same)

pub terms-preserved : goal.terms-preserved
terms-preserved c =
    let here : At c.args.terms.now c.terms.term-index c.term-item.result = record { within = c.terms-test.true; is = c.term-item.is } in
    one_more _ _ _ _ _ _ here c.terms.invariant c.in-Ok.ensures.ok c.in-Ok.ensures.short

pub returns-clause-ok : goal.returns-clause-ok
returns-clause-ok c = (all_appended _ _ c.terms.term-index _ (omega arith) c.terms.invariant).wrote

pub returns-clause-short : goal.returns-clause-short
returns-clause-short c = (all_appended _ _ c.terms.term-index _ (omega arith) c.terms.invariant).short
