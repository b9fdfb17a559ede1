use Rattle.std.proofs.Common.{length, take, arith, ap, ◌∙◌}
use Rattle.std.proofs.lemmas.List.{places, take-replicate}
use Rattle.vt_bytes.specs.Memory.{with_bytes}
use Rattle.cfg_dma.specs.Touching.{IsAmong}
use Rattle.guest_memory.proofs.Touching.{touches_put}
use Rattle.cfg_dma.proofs.moving.put_some_zeros.Goals as goal

pub copy_in-requires : goal.copy_in-requires
copy_in-requires c = λ i below. c.requires.ram i (grind (arith, places))

pub returns-clause-after : goal.returns-clause-after
returns-clause-after c =
    c.copy_in.ensures.after
    ∙ ap (with_bytes c.args.memory.now.memory c.args.address)
    (ap (take c.min-len.result) c.requires.zeros ∙ take-replicate c.min-len.result (length c.args.zeros.now) 0 (omega arith))

pub returns-clause-touches : goal.returns-clause-touches
returns-clause-touches c =
    touches_put (IsAmong c.args.address c.args.count) c.args.memory.now.memory.top c.args.address _ _ _ c.copy_in.ensures.touched
    (λ place its. (its.0, (let below = its.1 in grind (arith, places))))
