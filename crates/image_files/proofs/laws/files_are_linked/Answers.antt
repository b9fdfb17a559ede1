use Rattle.image_files.proofs.LinkedFiles.{files_linked}
use Rattle.image_files.proofs.laws.files_are_linked.Goals as goal

pub returns : goal.returns
returns c = files_linked
