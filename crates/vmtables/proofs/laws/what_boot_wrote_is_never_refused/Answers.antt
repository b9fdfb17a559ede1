use Rattle.command_acts.specs.Allocators.{MayAnswer}
use Rattle.vmtables.proofs.NeverRefused.{boot_never_refused}
use Rattle.vmtables.proofs.laws.what_boot_wrote_is_never_refused.Goals as goal

pub returns : goal.returns
returns g c =
    boot_never_refused (MayAnswer g.A.ZoneAlloc.state g.A.ZoneAlloc.gives) (MayAnswer g.B.ZoneAlloc.state g.B.ZoneAlloc.gives)
