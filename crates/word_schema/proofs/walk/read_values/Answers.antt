use Rattle.std.proofs.Common.{sym}
use Rattle.word_schema.proofs.Fronts.{too_few}
use Rattle.word_schema.proofs.walk.read_values.Goals as goal

pub returns-then-words-command : goal.returns-then-words-command
returns-then-words-command c = sym (too_few c.args.command.now c.args.words.now c.if-words-command.true)
