use Rattle.command_acts.specs.Allocators.{MayAnswer}
use Rattle.vmtables.proofs.CommandsComplete.{tell_faults}
use Rattle.vmtables.proofs.laws.each_command_tells_faults.Goals as goal

pub returns : goal.returns
returns g c = tell_faults (MayAnswer g.A.ZoneAlloc.state g.A.ZoneAlloc.gives)
