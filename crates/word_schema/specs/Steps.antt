-- The options that the code holds, on plain lists.
use Rattle.std.specs.Prelude.{List, map}
use Rattle.word_schema.specs.declared.given.Given.{Given as CodeGiven}
use Rattle.word_schema.specs.Given.{Given}

abbrev pub option_given : CodeGiven → Given
option_given option = record { name = option.name.now; value = option.value }

abbrev pub options_given : List CodeGiven → List Given
options_given given = map option_given given
