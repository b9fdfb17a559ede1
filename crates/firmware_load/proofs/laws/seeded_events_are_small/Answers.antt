use Rattle.firmware_load.proofs.SoMany.{all_seeded}
use Rattle.firmware_load.proofs.laws.seeded_events_are_small.Goals as goal

pub returns : goal.returns
returns c = all_seeded
