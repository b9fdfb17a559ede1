-- Which options words are, and what they say.
use Rattle.std.specs.Prelude.{ℕ, Bool, true, not, ◌&&◌, ◌||◌, ◌++◌, List, [], ◌∷◌, length, take, drop, map, filter, Option, Some, None, option_map}
use Rattle.std.specs.Prelude.{if◌then◌else◌, suc}
use Rattle.std.specs.Option.{option_and_then}
use Rattle.std.specs.List.{find, list_all, list_any}
use Rattle.std.specs.Str.{bytes_eq}
use Rattle.word_schema.specs.declared.value.Value.{Value}
use Rattle.word_schema.specs.declared.value.Value.TheVariants as values
use Rattle.word_schema.specs.Forms.{Form, Kind, Row, Pair, Schema}
use Rattle.word_schema.specs.Forms as forms
use Rattle.word_schema.specs.Numbers.{byte_of, number_within}

-- an option as it is given
pub record Given : Type 0 where
  pub name : List ℕ
  pub value : Value

-- the place of a word among words, counted from 0, the first where it stands there twice
abbrev pub place_of : List ℕ → List (List ℕ) → Option ℕ
place_of word [] = None
place_of word (other ∷ others) = if bytes_eq word other then Some 0 else option_map (λ place. suc place) (place_of word others)

-- the value that a word says
abbrev pub value_of : Form → List ℕ → Option Value
value_of forms.Byte word = option_map (λ byte. values.Number byte) (byte_of word)
value_of (forms.Number least most) word = option_map (λ number. values.Number number) (number_within least most word)
value_of (forms.Word words) word = option_map (λ place. values.Word place) (place_of word words)

-- what the next word is to be: the name of an option, or the value of the option of this name
pub data Awaited : Type 0 where
  Name : Awaited
  ValueOf : List ℕ → Form → Awaited

-- the option of a name
abbrev pub row_named : List ℕ → List Row → Option Row
row_named name rows = find (λ row. bytes_eq row.name name) rows

-- options behind the one in front
abbrev pub with_given : List ℕ → Value → Option (List Given) → Option (List Given)
with_given name value more = option_map (λ given. record { name = name; value = value } ∷ given) more

-- a flag is given by its name, any other option by its name and the value behind it
abbrev pub by_kind : Row → Option (List Given) → (Form → Option (List Given)) → Kind → Option (List Given)
by_kind row more valued forms.Flag = with_given row.name (values.Flag true) more
by_kind row more valued (forms.Valued form) = valued form

-- The options that words are: None where a word names none, where a value is missing, or where a word is no value of its option.
unfoldable pub given_from : List Row → Awaited → List (List ℕ) → Option (List Given)
given_from rows Name [] = Some []
given_from rows (ValueOf name form) [] = None
given_from rows Name (word ∷ words) =
    option_and_then (λ row. by_kind row (given_from rows Name words) (λ form. given_from rows (ValueOf row.name form) words) row.kind) (row_named word rows)
given_from rows (ValueOf name form) (word ∷ words) =
    option_and_then (λ value. with_given name value (given_from rows Name words)) (value_of form word)

abbrev pub given_by : List Row → List (List ℕ) → Option (List Given)
given_by rows words = given_from rows Name words

-- the values that are given for a name
abbrev pub values_named : List ℕ → List Given → List Value
values_named name given = map (λ option. option.value) (filter (λ option. bytes_eq option.name name) given)

-- the one value, or the default where there is none: None where it is given twice, or must be given
abbrev pub only : Option Value → List Value → Option Value
only default [] = default
only default (value ∷ []) = Some value
only default (value ∷ another ∷ more) = None

-- what an option says
abbrev pub option_value : Row → List Given → Option Value
option_value row given = only row.default (values_named row.name given)

-- a value, and those behind it
abbrev pub with_value : Option Value → Option (List Value) → Option (List Value)
with_value value more = option_and_then (λ value. option_map (λ more. value ∷ more) more) value

-- what each option says, in the order of the rows
unfoldable pub option_values : List Row → List Given → Option (List Value)
option_values [] given = Some []
option_values (row ∷ rows) given = with_value (option_value row given) (option_values rows given)

-- what each operand says: as many words as there are operands
unfoldable pub operand_values : List Form → List (List ℕ) → Option (List Value)
operand_values [] [] = Some []
operand_values [] (word ∷ words) = None
operand_values (form ∷ forms) [] = None
operand_values (form ∷ forms) (word ∷ words) = with_value (value_of form word) (operand_values forms words)

abbrev pub is_given : List ℕ → List Given → Bool
is_given name given = list_any (λ option. bytes_eq option.name name) given

-- no two options are given that exclude each other
abbrev pub are_compatible : List Pair → List Given → Bool
are_compatible pairs given = list_all (λ pair. not (is_given pair.one given && is_given pair.other given)) pairs

-- each option that is given, and needs another, is given with it
abbrev pub have_what_they_need : List Pair → List Given → Bool
have_what_they_need pairs given = list_all (λ pair. not (is_given pair.one given) || is_given pair.other given) pairs

-- what the options say
abbrev pub options_say : Schema → List Given → Option (List Value)
options_say schema given =
    if are_compatible schema.exclusive given && have_what_they_need schema.needs given then option_values schema.options given else None

-- What the words behind a command's name say: a value for each operand, which stand in front, and then for each option, in the order of the
-- rows. None where they are none of its words.
abbrev pub values_of : Schema → List (List ℕ) → Option (List Value)
values_of schema words =
    option_and_then (λ front. option_map (λ behind. front ++ behind)
    (option_and_then (options_say schema) (given_by schema.options (drop (length schema.operands) words))))
    (operand_values schema.operands (take (length schema.operands) words))
