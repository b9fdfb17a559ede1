use Rattle.std.proofs.Common.{sym, subst}
use Rattle.generated_machine.specs.Generated.{generated}
use Rattle.machine_desc.specs.Rules.{IsAccepted}
use Rattle.vmtables.specs.declared.fault.Fault.TheVariants.{OutOfMemory}
use Rattle.vmtables.proofs.Refused.{unmade_boot}
use Rattle.vmtables.proofs.generate_command.boot_generated.Goals as goal

pub returns-in_err-machine-clause-err : goal.returns-in_err-machine-clause-err
returns-in_err-machine-clause-err g c =
    unmade_boot _ _ (generated c.args.processors) _ OutOfMemory c.from_residual.result tt c.from_residual.ensures.1

pub boot_counted-counts-requires : goal.boot_counted-counts-requires
boot_counted-counts-requires g c =
    let lawful = c.requires.lawful in
    subst IsAccepted (sym c.in_ok-machine.ensures.machine) (c.generated_machines_are_accepted.ensures c.args.processors lawful.0 lawful.1)
