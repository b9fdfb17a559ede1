use Rattle.command_acts.specs.Allocators.{MayAnswer}
use Rattle.vmtables.proofs.Listed.{list_listed}
use Rattle.vmtables.proofs.laws.a_shown_memory_is_listed.Goals as goal

pub returns : goal.returns
returns g c = list_listed (MayAnswer g.A.ZoneAlloc.state g.A.ZoneAlloc.gives)
