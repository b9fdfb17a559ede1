use Rattle.vmtables.proofs.Refused.{imageless_container}
use Rattle.vmtables.proofs.build_command.image_container.Goals as goal

pub returns-in_err-image-clause-err : goal.returns-in_err-image-clause-err
returns-in_err-image-clause-err c =
    imageless_container c.args.machine.now c.in_err-image.field-0.0 c.from_residual.result c.in_err-image.ensures.err c.from_residual.ensures.1
