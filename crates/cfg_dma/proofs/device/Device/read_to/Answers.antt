use Rattle.std.proofs.Common.{◌≡◌, ◌+◌, ◌-◌, arith, ap, sym, subst, ◌∙◌}
use Rattle.std.proofs.lemmas.List.{places}
use Rattle.vt_bytes.specs.Memory.{Memory, IsRam, with_bytes}
use Rattle.cfg_dma.specs.Device.{DeviceState, contents}
use Rattle.cfg_dma.specs.Transfers.{next_bytes}
use Rattle.cfg_dma.specs.Touching.{IsAmong}
use Rattle.cfg_dma.proofs.Moved.{next_of, read_is}
use Rattle.guest_memory.proofs.Touching.{touches_put, touches_more}
use Rattle.cfg_dma.proofs.device.Device.read_to.Goals as goal

pub copy_in-requires : goal.copy_in-requires
copy_in-requires c = λ i below. c.requires.ram i (grind (arith, places))

pub put_zeros-requires : goal.put_zeros-requires
put_zeros-requires c = λ i below.
    let next : c.args.address + (c.min-there.result + i) ≡ c.args.address + c.min-there.result + i = omega arith in
    subst (λ (m : Memory). IsRam m.top (c.args.address + c.min-there.result + i)) (sym c.copy_in.ensures.after)
    (subst (IsRam c.args.memory.now.memory.top) next (c.requires.ram (c.min-there.result + i) (omega arith)))

pub returns-clause-after : goal.returns-clause-after
returns-clause-after c =
    read_is c.args.memory.now.memory c.copy_in.new.self.memory c.put_zeros.new.memory.memory c.args.address c.self.inside.offset c.args.count c.min-there.result
    c.contents.result.now c.copy_in.ensures.lawful c.requires.ram c.min-there.ensures c.copy_in.ensures.after c.put_zeros.ensures.after
    ∙ ap (λ bytes. with_bytes c.args.memory.now.memory c.args.address (next_of bytes c.self.inside.offset c.args.count))
    (c.contents.ensures.value ∙ ap (λ (d : DeviceState). contents d.items c.self.inside.select) (sym c.self.view_is))
    ∙ ap (λ (d : DeviceState). with_bytes c.args.memory.now.memory c.args.address (next_bytes d c.args.count)) c.self.view_is

pub returns-clause-touches : goal.returns-clause-touches
returns-clause-touches c =
    let whole = IsAmong c.args.address c.args.count in
    touches_more whole (IsAmong (c.args.address + c.min-there.result) (c.args.count - c.min-there.result)) c.args.memory.now.memory.top _ _ _ _
    (touches_put whole c.args.memory.now.memory.top c.args.address _ _ _ c.copy_in.ensures.touched
    (λ place its. (its.0, (let below = its.1 in grind (arith, places)))))
    (ap (λ (m : Memory). m.top) c.copy_in.ensures.after)
    (λ place its. (omega (arith, its.0), omega (arith, its.0, its.1))) c.put_zeros.ensures.touches
