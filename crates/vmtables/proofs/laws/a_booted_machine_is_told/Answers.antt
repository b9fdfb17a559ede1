use Rattle.command_acts.specs.Allocators.{MayAnswer}
use Rattle.vmtables.proofs.Told.{boot_told}
use Rattle.vmtables.proofs.laws.a_booted_machine_is_told.Goals as goal

pub returns : goal.returns
returns g c =
    boot_told (MayAnswer g.A.ZoneAlloc.state g.A.ZoneAlloc.gives) (MayAnswer g.B.ZoneAlloc.state g.B.ZoneAlloc.gives)
