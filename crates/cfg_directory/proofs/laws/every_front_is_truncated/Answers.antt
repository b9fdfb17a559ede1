use Rattle.cfg_directory.proofs.Fronts.{front_is_truncated}
use Rattle.cfg_directory.proofs.laws.every_front_is_truncated.Goals as goal

pub returns : goal.returns
returns c = front_is_truncated
