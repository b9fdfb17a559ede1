-- The words of values.
use Rattle.std.specs.Prelude.{ℕ, ◌/◌, ◌%◌, ◌==◌, Bool, false, not, List, [], ◌∷◌, ◌++◌, length, drop, get_or, Option, Some, None, if◌then◌else◌}
use Rattle.std.specs.Char.{digit_char}
use Rattle.std.specs.Fmt.{decimal}
use Rattle.word_schema.specs.declared.value.Value.{Value}
use Rattle.word_schema.specs.declared.value.Value.TheVariants as values
use Rattle.word_schema.specs.Forms.{Form, Kind, Row, Schema}
use Rattle.word_schema.specs.Forms as forms
use Rattle.word_schema.specs.Given.{Given}

-- the two digits of a byte
abbrev pub hex_digits : ℕ → List ℕ
hex_digits byte = digit_char (byte / 16) ∷ digit_char (byte % 16) ∷ []

-- the word of a value of a form
abbrev pub word_of : Form → Value → List ℕ
word_of forms.Byte (values.Number n) = hex_digits n
word_of (forms.Number least most) (values.Number n) = decimal n
word_of (forms.Word words) (values.Word place) = get_or words place []
word_of form value = []

abbrev pub same_value : Value → Value → Bool
same_value (values.Flag a) (values.Flag b) = if a then b else not b
same_value (values.Number a) (values.Number b) = a == b
same_value (values.Word a) (values.Word b) = a == b
same_value _ _ = false

abbrev pub is_default : Option Value → Value → Bool
is_default None value = false
is_default (Some default) value = same_value default value

-- the options whose values aren't their defaults
abbrev pub given_for : List Row → List Value → List Given
given_for [] values = []
given_for (row ∷ rows) [] = []
given_for (row ∷ rows) (value ∷ values) =
    if is_default row.default value then given_for rows values else record { name = row.name; value = value } ∷ given_for rows values

-- an option's words: a flag's name, or the name and the word of the value
abbrev pub words_by : Row → Value → Kind → List (List ℕ)
words_by row value forms.Flag = row.name ∷ []
words_by row value (forms.Valued form) = row.name ∷ word_of form value ∷ []

abbrev pub option_words : List Row → List Value → List (List ℕ)
option_words [] values = []
option_words (row ∷ rows) [] = []
option_words (row ∷ rows) (value ∷ values) =
    if is_default row.default value then option_words rows values else words_by row value row.kind ++ option_words rows values

abbrev pub operand_words : List Form → List Value → List (List ℕ)
operand_words [] values = []
operand_words (form ∷ forms) [] = []
operand_words (form ∷ forms) (value ∷ values) = word_of form value ∷ operand_words forms values

-- The words of a command's values: those of its operands, and then those of each option whose value isn't its default.
abbrev pub written : Schema → List Value → List (List ℕ)
written schema values = operand_words schema.operands values ++ option_words schema.options (drop (length schema.operands) values)
