use Rattle.firmware_load.proofs.SoMany.{none_of_zero, so_many_of_seed}
use Rattle.firmware_load.proofs.laws.seeds_have_so_many_events.Goals as goal

pub returns-clause-none : goal.returns-clause-none
returns-clause-none c = none_of_zero

pub returns-clause-some : goal.returns-clause-some
returns-clause-some c = so_many_of_seed
