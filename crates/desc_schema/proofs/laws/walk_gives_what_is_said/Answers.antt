use Rattle.desc_schema.proofs.Saying.{walked_says}
use Rattle.desc_schema.proofs.laws.walk_gives_what_is_said.Goals as goal

pub returns : goal.returns
returns c = walked_says
