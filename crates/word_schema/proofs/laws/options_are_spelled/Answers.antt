use Rattle.word_schema.proofs.Spelling.{given_is_spelled, spelled_is_given}
use Rattle.word_schema.proofs.laws.options_are_spelled.Goals as goal

pub returns : goal.returns
returns c = λ rows words given. (given_is_spelled rows words given, spelled_is_given rows given words)
