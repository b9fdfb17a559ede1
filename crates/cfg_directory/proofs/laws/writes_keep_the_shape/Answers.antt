use Rattle.cfg_directory.proofs.Shapes.{put_keeps_shape}
use Rattle.cfg_directory.proofs.laws.writes_keep_the_shape.Goals as goal

pub returns : goal.returns
returns c = put_keeps_shape
