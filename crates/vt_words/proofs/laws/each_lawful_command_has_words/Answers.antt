use Rattle.vt_words.proofs.Rounds.{read_command}
use Rattle.vt_words.proofs.laws.each_lawful_command_has_words.Goals as goal

pub returns : goal.returns
returns c = read_command
