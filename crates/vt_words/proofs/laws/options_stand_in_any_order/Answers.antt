use Rattle.vt_words.proofs.Choosing.{same_command}
use Rattle.vt_words.proofs.laws.options_stand_in_any_order.Goals as goal

pub returns : goal.returns
returns c = same_command
