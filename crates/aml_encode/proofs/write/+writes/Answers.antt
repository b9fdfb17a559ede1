use Rattle.std.proofs.Common.{rules, arith}
use Rattle.std.proofs.lemmas.Grind.{common_steps}
use Rattle.aml_terms.specs.Written.{written}
use Rattle.aml_encode.proofs.Measuring.{At}
use Rattle.aml_encode.proofs.Smaller.{smaller}
use Rattle.aml_encode.proofs.Writing.{CanWrite, can_write, partway_more, partway_all, count_views}
use Rattle.aml_encode.proofs.write.+writes.Goals as goal

pub write_package-returns-clause-wrote : goal.write_package-returns-clause-wrote
unfolding written
write_package-returns-clause-wrote t c = grind (arith, common_steps, count_views c.args.values.now)

pub write_all-write-requires : goal.write_all-write-requires
write_all-write-requires t c =
    let here : At c.args.terms.now c.terms.term-index c.term-item.result = record { within = c.terms-test.true; is = c.term-item.is } in
    let below = smaller _ _ _ here in
    let can : CanWrite c.terms.sizes c.term-item.result = can_write _ _ _ _ _ _ _ here c.terms.invariant in
    (search (rules, below), (can.good, (can.short, can.listed)))

pub write_all-terms-preserved : goal.write_all-terms-preserved
write_all-terms-preserved t c =
    let here : At c.args.terms.now c.terms.term-index c.term-item.result = record { within = c.terms-test.true; is = c.term-item.is } in
    let wrote = c.in_ok-write.ensures in
    partway_more _ _ _ _ _ _ _ _ _ here c.terms.invariant wrote.wrote wrote.taken wrote.kept

pub write_all-returns-clause-wrote : goal.write_all-returns-clause-wrote
write_all-returns-clause-wrote t c = (partway_all _ _ _ c.terms.term-index _ _ (omega arith) c.terms.invariant).wrote

pub write_all-returns-clause-taken : goal.write_all-returns-clause-taken
write_all-returns-clause-taken t c = (partway_all _ _ _ c.terms.term-index _ _ (omega arith) c.terms.invariant).taken
