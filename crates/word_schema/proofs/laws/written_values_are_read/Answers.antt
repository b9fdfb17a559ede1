use Rattle.word_schema.proofs.Writing.{written_is_read}
use Rattle.word_schema.proofs.laws.written_values_are_read.Goals as goal

pub returns : goal.returns
returns c = written_is_read
