use Rattle.std.proofs.Common.{false}
use Rattle.firmware_load.proofs.Given.{none_left}
use Rattle.firmware_load.proofs.seeded_schedule.SeededSchedule.new.Goals as goal

pub returns : goal.returns
returns c = none_left false c.seed_from_u64.result
