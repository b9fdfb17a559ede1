use Rattle.std.proofs.Common.{rules, arith}
use Rattle.std.proofs.lemmas.Result.{err_from_is_err_and}
use Rattle.aml_encode.proofs.Measuring.{At, ahead, halfway_more, halfway_off, halfway_all, refuses_all}
use Rattle.aml_encode.proofs.Smaller.{smaller}
use Rattle.aml_encode.proofs.measure.+measures.Goals as goal

pub measure_body-measure-requires : goal.measure_body-measure-requires
measure_body-measure-requires t c =
    let here : At c.args.terms.now c.terms.term-index c.term-item.result = record { within = c.terms-test.true; is = c.term-item.is } in
    let below = smaller _ _ _ here in
    (search (rules, below), ((ahead _ _ _ here).good c.terms.invariant.good).0)

pub measure_body-returns-in_err-measure : goal.measure_body-returns-in_err-measure
measure_body-returns-in_err-measure t c =
    let here : At c.args.terms.now c.terms.term-index c.term-item.result = record { within = c.terms-test.true; is = c.term-item.is } in
    let p = err_from_is_err_and c.from_residual.result c.from_residual.ensures.1 in
    rw (p.1, p.2)
    (refuses_all _ _ c.in_err-measure.field-0.0 (λ w. ((ahead _ _ _ here).short (c.terms.invariant.part w.1)).0) c.in_err-measure.ensures)

pub measure_body-returns-in_err-body : goal.measure_body-returns-in_err-body
measure_body-returns-in_err-body t c =
    let here : At c.args.terms.now c.terms.term-index c.term-item.result = record { within = c.terms-test.true; is = c.term-item.is } in
    let p = err_from_is_err_and c.from_residual-in_err-body.result c.from_residual-in_err-body.ensures.1 in
    rw (p.1, p.2)
    (halfway_off c.in_err-body.field-0.0 _ _ _ _ _ _ _ _ _ here c.terms.invariant c.in_ok-measure.ensures c.in_err-body.ensures)

pub measure_body-terms-preserved : goal.measure_body-terms-preserved
measure_body-terms-preserved t c =
    let here : At c.args.terms.now c.terms.term-index c.term-item.result = record { within = c.terms-test.true; is = c.term-item.is } in
    halfway_more _ _ _ _ _ _ _ _ _ _ here c.terms.invariant c.in_ok-measure.ensures c.in_ok-body.ensures

pub measure_body-returns : goal.measure_body-returns
measure_body-returns t c = halfway_all _ _ _ c.terms.term-index _ _ (omega arith) c.terms.invariant
