-- Values that are taken out from the front.
use Rattle.std.specs.Prelude.{ℕ, zero, suc, Bool, false, List, [], ◌∷◌, nat_le, if◌then◌else◌}
use Rattle.word_schema.specs.declared.value.Value.{Value}
use Rattle.word_schema.specs.declared.value.Value.TheVariants.{Flag, Number, Word}

-- the first value; a flag that isn't given where there is none
abbrev pub first : List Value → Value
first [] = Flag false
first (value ∷ more) = value

-- all but the first
abbrev pub rest : List Value → List Value
rest [] = []
rest (value ∷ more) = more

-- without the first so many, and the value at a place
abbrev pub skip : ℕ → List Value → List Value
skip zero values = values
skip (suc n) values = skip n (rest values)

abbrev pub value_at : ℕ → List Value → Value
value_at n values = first (skip n values)

-- What a value is for a record that wants one of a kind. A value of another kind, which no words say there, is false or 0; and so is a
-- number past the most.

abbrev pub flag_of : Value → Bool
flag_of (Flag flag) = flag
flag_of (Number n) = false
flag_of (Word n) = false

abbrev pub number_to : ℕ → Value → ℕ
number_to most (Flag flag) = 0
number_to most (Number n) = if nat_le n most then n else 0
number_to most (Word n) = 0

abbrev pub place_in : Value → ℕ
place_in (Flag flag) = 0
place_in (Number n) = 0
place_in (Word n) = n
