use Rattle.command_acts.specs.Allocators.{MayAnswer}
use Rattle.desc_toml.proofs.OneMachine.{read_accepted}
use Rattle.vmtables.proofs.Booting.{described_boot, described_failed}
use Rattle.vmtables.proofs.Refused.{unread_boot}
use Rattle.vmtables.proofs.boot_command.boot_described.Goals as goal

pub boot_machine-booted-requires : goal.boot_machine-booted-requires
boot_machine-booted-requires g c = read_accepted c.args.description.now c.in_ok-machine.machine c.in_ok-machine.ensures.ok

pub returns-in_err-machine-clause-err : goal.returns-in_err-machine-clause-err
returns-in_err-machine-clause-err g c =
    unread_boot _ _ _ _ c.in_err-machine.field-0.0 c.from_residual.result c.in_err-machine.ensures.err c.from_residual.ensures.1

pub returns-clause-ok : goal.returns-clause-ok
returns-clause-ok g c =
    described_boot (MayAnswer g.A.ZoneAlloc.state g.A.ZoneAlloc.gives) c.args.setting.now c.args.description.now c.in_ok-machine.machine _ _
    c.boot_machine-booted.result c.in_ok-machine.ensures.ok c.boot_machine-booted.ensures.ok

pub returns-clause-err : goal.returns-clause-err
returns-clause-err g c =
    described_failed (MayAnswer g.A.ZoneAlloc.state g.A.ZoneAlloc.gives) c.args.setting.now c.args.description.now c.in_ok-machine.machine _ _
    c.boot_machine-booted.result c.in_ok-machine.ensures.ok c.boot_machine-booted.ensures.err
