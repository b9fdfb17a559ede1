use Rattle.cfg_directory.proofs.Faults.{fault_stays}
use Rattle.cfg_directory.proofs.laws.a_fault_stays.Goals as goal

pub returns : goal.returns
returns c = fault_stays
