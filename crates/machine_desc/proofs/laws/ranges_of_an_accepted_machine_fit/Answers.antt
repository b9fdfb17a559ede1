use Rattle.machine_desc.proofs.Accepted.{fitting_ranges}
use Rattle.machine_desc.proofs.laws.ranges_of_an_accepted_machine_fit.Goals as goal

pub returns : goal.returns
returns c = fitting_ranges
