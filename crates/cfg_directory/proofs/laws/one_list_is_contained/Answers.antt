use Rattle.cfg_directory.proofs.Containers.{one_list}
use Rattle.cfg_directory.proofs.laws.one_list_is_contained.Goals as goal

pub returns : goal.returns
returns c = one_list
