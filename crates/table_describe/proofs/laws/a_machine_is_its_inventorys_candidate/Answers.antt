use Rattle.table_describe.proofs.MachineBack.{machine_back}
use Rattle.table_describe.proofs.laws.a_machine_is_its_inventorys_candidate.Goals as goal

pub returns : goal.returns
returns c = machine_back
