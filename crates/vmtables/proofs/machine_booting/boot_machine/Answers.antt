use Rattle.vmtables.proofs.Refused.{unmade_boot}
use Rattle.vmtables.proofs.machine_booting.boot_machine.Goals as goal

pub returns-in_err-image-clause-err : goal.returns-in_err-image-clause-err
returns-in_err-image-clause-err g c =
    unmade_boot _ _ c.args.machine.now _ c.in_err-image.field-0.0 c.from_residual.result c.in_err-image.ensures.err c.from_residual.ensures.1
