-- The words of options, one option after the other.
use Rattle.std.specs.Prelude.{◌≡◌, ℕ, true, List, [], ◌∷◌, Some}
use Rattle.word_schema.specs.declared.value.Value.TheVariants as values
use Rattle.word_schema.specs.Forms.{Kind, Row}
use Rattle.word_schema.specs.Forms as forms
use Rattle.word_schema.specs.Given.{Given, row_named, value_of}

-- in front of the words stand those of an option of a kind: a flag's name, or its name and a word that says its value
abbrev pub StandsInFront : Kind → Given → List (List ℕ) → List (List ℕ) → Type 0
StandsInFront forms.Flag option words rest = (option.value ≡ values.Flag true) × (words ≡ option.name ∷ rest)
StandsInFront (forms.Valued form) option words rest =
    (word : List ℕ) × (value_of form word ≡ Some option.value) × (words ≡ option.name ∷ word ∷ rest)

-- the words are those of these options of the rows, one after the other
abbrev pub AreSpelled : List Row → List (List ℕ) → List Given → Type 0
AreSpelled rows words [] = words ≡ []
AreSpelled rows words (option ∷ given) =
    (row : Row) × (rest : List (List ℕ)) × (row_named option.name rows ≡ Some row) × StandsInFront row.kind option words rest × AreSpelled rows rest given
