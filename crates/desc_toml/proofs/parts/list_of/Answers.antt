use Rattle.std.proofs.Common.{◌∙◌, arith}
use Rattle.desc_toml.specs.Values.{list_of}
use Rattle.desc_toml.proofs.Each.{next_part, all_taken}
use Rattle.desc_toml.proofs.parts.list_of.Goals as goal

pub returns : goal.returns
unfolding list_of
returns g c =
    rw (← c.take_count-count.ensures.value, ← c.take_count-count.ensures.rest)
    (all_taken g.T.Part.taken _ c.loop.list c.loop.values _ c.loop.invariant (omega arith))

pub loop-preserved : goal.loop-preserved
loop-preserved g c =
    rw (c.in_ok-push.ensures.ok, c.in_ok-take.ensures.part, c.in_ok-take.ensures.left)
    (next_part g.T.Part.taken c.take_count-count.result c.loop.counter c.loop.list c.loop.values c.loop-test.true ∙ c.loop.invariant)
