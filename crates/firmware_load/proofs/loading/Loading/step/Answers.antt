use Rattle.load_states.specs.declared.event.Event.TheVariants.{Device, Firmware, Other, Reset}
use Rattle.firmware_load.proofs.StepInside.{inside_after}
use Rattle.firmware_load.proofs.Touching.{touches_event, touches_reset}
use Rattle.load_states.specs.LoadState.{LoadState, memory_of}
use Rattle.load_states.proofs.ResetEvents.{refilled_top}
use Rattle.std.proofs.Common.{ap, ◌∙◌}
use Rattle.firmware_load.proofs.loading.Loading.step.Goals as goal

pub returns-in-Device-clause-begun_so : goal.returns-in-Device-clause-begun_so
returns-in-Device-clause-begun_so g c =
    let A = g.A.ZoneAlloc in
    let place = c.args.place.now in
    inside_after {A = g.row.A.Denot} A.state A.gives (A.state place).begun c.args.self.now c.move_piece.new.self (Device c.in-Device.bytes)
    c.requires.zones c.move_piece.ensures.steps c.move_piece.ensures.rooms

pub returns-in-Device-clause-inside : goal.returns-in-Device-clause-inside
returns-in-Device-clause-inside g c =
    let A = g.A.ZoneAlloc in
    let place = c.args.place.now in (
      c.requires.inside.0,
      inside_after {A = g.row.A.Denot} A.state A.gives (A.state place).begun c.args.self.now c.move_piece.new.self (Device c.in-Device.bytes)
          c.requires.zones c.move_piece.ensures.steps c.move_piece.ensures.rooms c.requires.inside.0 c.requires.inside.1,
    )

pub returns-in-Firmware-clause-begun_so : goal.returns-in-Firmware-clause-begun_so
returns-in-Firmware-clause-begun_so g c =
    let A = g.A.ZoneAlloc in
    let place = c.args.place.now in
    inside_after {A = g.row.A.Denot} A.state A.gives (A.state place).begun c.args.self.now c.firmware_step.new.self Firmware
    c.requires.zones c.firmware_step.ensures.steps c.firmware_step.ensures.rooms

pub returns-in-Firmware-clause-inside : goal.returns-in-Firmware-clause-inside
returns-in-Firmware-clause-inside g c =
    let A = g.A.ZoneAlloc in
    let place = c.args.place.now in (
      c.requires.inside.0,
      inside_after {A = g.row.A.Denot} A.state A.gives (A.state place).begun c.args.self.now c.firmware_step.new.self Firmware
          c.requires.zones c.firmware_step.ensures.steps c.firmware_step.ensures.rooms c.requires.inside.0 c.requires.inside.1,
    )

pub returns-in-Other-clause-begun_so : goal.returns-in-Other-clause-begun_so
returns-in-Other-clause-begun_so g c =
    let A = g.A.ZoneAlloc in
    let place = c.args.place.now in
    inside_after {A = g.row.A.Denot} A.state A.gives (A.state place).begun c.args.self.now c.write_by_other.new.self (Other c.in-Other.addr c.in-Other.byte)
    c.requires.zones c.write_by_other.ensures.steps c.write_by_other.ensures.rooms

pub returns-in-Other-clause-inside : goal.returns-in-Other-clause-inside
returns-in-Other-clause-inside g c =
    let A = g.A.ZoneAlloc in
    let place = c.args.place.now in (
      c.requires.inside.0,
      inside_after {A = g.row.A.Denot} A.state A.gives (A.state place).begun c.args.self.now c.write_by_other.new.self (Other c.in-Other.addr c.in-Other.byte)
          c.requires.zones c.write_by_other.ensures.steps c.write_by_other.ensures.rooms c.requires.inside.0 c.requires.inside.1,
    )

pub returns-in-Device-clause-touches : goal.returns-in-Device-clause-touches
returns-in-Device-clause-touches g c =
    rw c.in-Device.is (touches_event (Device c.in-Device.bytes) c.args.self.now.guest c.move_piece.new.self.guest c.move_piece.ensures.touches)

pub returns-in-Firmware-clause-touches : goal.returns-in-Firmware-clause-touches
returns-in-Firmware-clause-touches g c =
    rw c.in-Firmware.is (touches_event Firmware c.args.self.now.guest c.firmware_step.new.self.guest c.firmware_step.ensures.touches)

pub returns-in-Reset-clause-begun_so : goal.returns-in-Reset-clause-begun_so
returns-in-Reset-clause-begun_so g c =
    let A = g.A.ZoneAlloc in
    let place = c.args.place.now in
    inside_after {A = g.row.A.Denot} A.state A.gives (A.state place).begun c.args.self.now c.restart.new.self Reset
    c.requires.zones c.restart.ensures.steps c.restart.ensures.rooms

pub returns-in-Reset-clause-inside : goal.returns-in-Reset-clause-inside
returns-in-Reset-clause-inside g c =
    let A = g.A.ZoneAlloc in
    let place = c.args.place.now in (
      c.requires.inside.0,
      inside_after {A = g.row.A.Denot} A.state A.gives (A.state place).begun c.args.self.now c.restart.new.self Reset
          c.requires.zones c.restart.ensures.steps c.restart.ensures.rooms c.requires.inside.0 c.requires.inside.1,
    )

pub returns-in-Reset-clause-touches : goal.returns-in-Reset-clause-touches
returns-in-Reset-clause-touches g c =
    rw c.in-Reset.is (touches_reset c.args.self.now.guest c.restart.new.self.guest (rw c.requires.inside.1.kept.top c.requires.inside.1.kept.zones)
    (ap (λ (w : LoadState). (memory_of w).top) c.restart.ensures.steps ∙ refilled_top c.args.self.now.guest.memory.memory) c.restart.ensures.touches)
