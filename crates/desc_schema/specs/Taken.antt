-- Values that are taken out from the front.
use Rattle.std.specs.Prelude.{ℕ, zero, suc, Bool, false, List, [], ◌∷◌, Option, Some, None, nat_le, if◌then◌else◌}
use Rattle.desc_schema.specs.declared.value.Value.{Value}

-- the first value; Nothing where there is none
abbrev pub first : List Value → Value
first [] = Value.Nothing
first (value ∷ more) = value

-- all but the first
abbrev pub rest : List Value → List Value
rest [] = []
rest (value ∷ more) = more

-- without the first so many, and the value at a place
abbrev pub skip : ℕ → List Value → List Value
skip zero values = values
skip (suc n) values = skip n (rest values)

abbrev pub value_at : ℕ → List Value → Value
value_at n values = first (skip n values)

-- What a value is for a record that wants one of a kind. A value of another kind, which no walk gives there, is the empty text, 0,
-- false or none; and so is a number past the most.

abbrev pub text_of : Value → List ℕ
text_of (Value.Text text) = text
text_of _ = []

abbrev pub number_to : ℕ → Value → ℕ
number_to most (Value.Number n) = if nat_le n most then n else 0
number_to most _ = 0

abbrev pub number_if : ℕ → Value → Option ℕ
number_if most (Value.Number n) = if nat_le n most then Some n else None
number_if most _ = None

abbrev pub flag_of : Value → Bool
flag_of (Value.Flag flag) = flag
flag_of _ = false

abbrev pub uuid_if : Value → Option ℕ
uuid_if (Value.Uuid n) = Some n
uuid_if _ = None

abbrev pub word_of : Value → ℕ
word_of (Value.Word n) = n
word_of _ = 0

abbrev pub count_of : Value → ℕ
count_of (Value.Count n) = n
count_of _ = 0
