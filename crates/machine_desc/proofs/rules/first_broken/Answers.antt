use Rattle.std.proofs.Common.{sym, ◌∙◌, arith}
use Rattle.machine_desc.proofs.Indices.{broken_here}
use Rattle.machine_desc.proofs.rules.first_broken.Goals as goal

pub overflow_cast-result : goal.overflow_cast-result
overflow_cast-result c =
    let here = broken_here c.args.breaches.now c.loop-breach.breach-index c.in-Some.index _ c.loop-breach-test.true c.in-Some.is in
    omega (arith, c.requires _ (sym c.loop-breach.invariant ∙ here))
