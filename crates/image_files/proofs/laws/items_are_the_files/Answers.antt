use Rattle.image_files.proofs.ByName.{begins_with}
use Rattle.image_files.proofs.laws.items_are_the_files.Goals as goal

pub returns : goal.returns
returns c = begins_with
