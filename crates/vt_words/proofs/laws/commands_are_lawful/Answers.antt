use Rattle.vt_words.proofs.Lawful.{lawful}
use Rattle.vt_words.proofs.laws.commands_are_lawful.Goals as goal

pub returns : goal.returns
returns c = lawful
