use Rattle.std.proofs.Common.{◌≡◌, ◌+◌, arith, inl, inr, ap, sym, subst, ◌∙◌}
use Rattle.vt_bytes.specs.Memory.{IsRam, IsRamRange}
use Rattle.cfg_dma.specs.Transfers.{Attached}
use Rattle.guest_memory.proofs.Touches.{touches_weaker}
use Rattle.cfg_dma.specs.declared.transfer.Kind.TheVariants.{Read}
use Rattle.cfg_dma.specs.Touching.{IsAmong, IsInDescriptor, IsTouchedBy}
use Rattle.cfg_dma.proofs.Runs.{ram_below}
use Rattle.cfg_dma.proofs.Moved.{same_top, goes_on}
use Rattle.guest_memory.proofs.Touching.{touches_more}
use Rattle.cfg_dma.proofs.device.Device.move_next.Goals as goal

pub overflow_add-address : goal.overflow_add-address
overflow_add-address c =
    omega (
      arith,
      ram_below c.args.memory.now.memory.top (c.args.flight.transfer.address + c.args.flight.moved)
          (c.requires.range c.args.flight.moved c.requires.flight.left)
          c.top-top.ensures.lawful.top,
      c.from.ensures,
    )

pub move_as-requires-clause-ram : goal.move_as-requires-clause-ram
move_as-requires-clause-ram c = λ i below.
    let next : c.args.flight.transfer.address + (c.args.flight.moved + i) ≡ c.args.flight.transfer.address + c.from.result + i =
    omega (arith, c.from.ensures) in
    subst (IsRam c.args.memory.now.memory.top) next (c.requires.range (c.args.flight.moved + i) (omega arith))

pub settle-requires-clause-descriptor : goal.settle-requires-clause-descriptor
settle-requires-clause-descriptor c =
    let top = ap (λ (a : Attached). a.memory.top) c.move_as.ensures.after
    ∙ same_top c.args.flight.transfer.kind c.args.self.now c.args.memory.now.memory (c.args.flight.transfer.address + c.from.result) c.min-count.result in
    subst (λ top. IsRamRange top c.args.flight.descriptor 16) (sym top) c.requires.descriptor

pub settle-requires-clause-flight : goal.settle-requires-clause-flight
settle-requires-clause-flight c =
    goes_on c.args.self.now c.move_as.new.self c.args.memory.now.memory c.move_as.new.memory.memory c.args.flight
    (c.args.flight.transfer.address + c.from.result)
    c.min-count.result c.requires.items c.requires.flight (omega arith) c.move_as.ensures.after

pub returns-clause-touches : goal.returns-clause-touches
returns-clause-touches c =
    let flight = c.args.flight in
    let its_top = c.args.memory.now.memory.top in
    let top = ap (λ (a : Attached). a.memory.top) c.move_as.ensures.after
    ∙ same_top flight.transfer.kind c.args.self.now c.args.memory.now.memory (flight.transfer.address + c.from.result) c.min-count.result in
    touches_more (IsTouchedBy flight) (IsInDescriptor flight.descriptor) its_top _ _ _ _
    (touches_weaker (λ place. (flight.transfer.kind ≡ Read) × IsAmong (flight.transfer.address + c.from.result) c.min-count.result place)
    (IsTouchedBy flight) its_top _ _
    (λ place its. inr (its.0, (omega (arith, its.1.0), omega (arith, its.1.1, c.from.ensures, c.min-count.ensures)))) c.move_as.ensures.touches)
    top (λ place its. inl its) c.settle.ensures.touches
