use Rattle.command_acts.specs.Allocators.{MayAnswer}
use Rattle.vmtables.proofs.Told.{machine_told}
use Rattle.vmtables.proofs.laws.a_shown_machine_is_told.Goals as goal

pub returns : goal.returns
returns g c = machine_told (MayAnswer g.A.ZoneAlloc.state g.A.ZoneAlloc.gives)
