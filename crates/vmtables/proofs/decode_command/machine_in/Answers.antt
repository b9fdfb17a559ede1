use Rattle.vmtables.proofs.Refused.{undescribed_so}
use Rattle.vmtables.proofs.decode_command.machine_in.Goals as goal

pub returns-in_err-machine-clause-err : goal.returns-in_err-machine-clause-err
returns-in_err-machine-clause-err g =
    undescribed_so g.args.search g.args.bytes g.in_ok-inventory.inventory g.in_err-machine.field-0.0 g.from_residual-in_err-machine.result
    g.in_ok-inventory.ensures.ok
    g.in_err-machine.ensures.refused g.from_residual-in_err-machine.ensures.1
