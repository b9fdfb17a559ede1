use Rattle.std.proofs.Common.{sym, ◌∙◌}
use Rattle.machine_desc.proofs.InOrder.{first_unlawful_is, unlawful_here, lawful_to_end}
use Rattle.machine_desc.proofs.ranges.unlawful_range.Goals as goal

pub returns-then-not-is_lawful_range : goal.returns-then-not-is_lawful_range
returns-then-not-is_lawful_range c =
    let unlawful = sym c.is_lawful_range.ensures ∙ c.if-not-is_lawful_range.true in
    sym (unlawful_here c.args.ranges.now c.loop-index.index c.loop-index.end _ c.loop-index-test.true unlawful) ∙ c.loop-index.invariant
    ∙ first_unlawful_is c.args.ranges.now

pub returns : goal.returns
returns c =
    sym (lawful_to_end c.args.ranges.now c.loop-index.index c.loop-index.end c.loop-index-test.false) ∙ c.loop-index.invariant
    ∙ first_unlawful_is c.args.ranges.now
