use Rattle.table_describe.proofs.MachineBack.{same_machine}
use Rattle.table_describe.proofs.laws.no_two_machines_are_alike.Goals as goal

pub returns : goal.returns
returns c = same_machine
