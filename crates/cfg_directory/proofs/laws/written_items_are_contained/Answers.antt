use Rattle.cfg_directory.proofs.Written.{written_is_contained}
use Rattle.cfg_directory.proofs.laws.written_items_are_contained.Goals as goal

pub returns : goal.returns
returns c = written_is_contained
