use Rattle.image_files.proofs.InTurn.{links}
use Rattle.image_files.proofs.laws.script_links_its_files.Goals as goal

pub returns : goal.returns
returns c = links
