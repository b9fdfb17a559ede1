use Rattle.command_acts.specs.Allocators.{MayAnswer}
use Rattle.vmtables.proofs.CommandsComplete.{are_done}
use Rattle.vmtables.proofs.laws.each_command_is_done.Goals as goal

pub returns : goal.returns
returns g c = are_done (MayAnswer g.A.ZoneAlloc.state g.A.ZoneAlloc.gives)
