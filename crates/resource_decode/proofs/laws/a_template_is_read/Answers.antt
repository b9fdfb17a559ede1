use Rattle.resource_decode.proofs.AllItems.{template_back}
use Rattle.resource_decode.proofs.laws.a_template_is_read.Goals as goal

pub returns : goal.returns
returns c = template_back
