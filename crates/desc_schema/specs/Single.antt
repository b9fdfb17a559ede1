-- A single value, by what it is to be.
use Rattle.std.specs.Prelude.{ℕ, ℤ, pos, negsuc, ◌+◌, List, [], ◌∷◌, Option, Some, None, Result, Ok, Err, nat_le, ◌&&◌, if◌then◌else◌}
use Rattle.std.specs.Int.{w128, from_be_bytes}
use Rattle.std.specs.Str.{bytes_eq}
use Rattle.vt_outside.specs.Readings.{◌into◌}
use Rattle.std.specs.Option.{ok_or}
use Rattle.toml.specs.Data.{Data, as_str, as_integer, as_bool}
use Rattle.uuid.specs.Text.{parsed}
use Rattle.desc_schema.specs.declared.value.Value.{Value}
use Rattle.desc_schema.specs.declared.fault.KeyPlace.{KeyPlace}
use Rattle.desc_schema.specs.declared.fault.WalkFault.{WalkFault}
use Rattle.desc_schema.specs.declared.fault.WalkFault.TheVariants.{MissingKey, OutOfRange, WrongKind}
use Rattle.desc_schema.specs.Form.{Form}
use Rattle.desc_schema.specs.Form as forms

-- an integer (TOML 1.1, "Integer") from the least to the most
abbrev pub number_of : KeyPlace → ℕ → ℕ → ℤ → Result Value WalkFault
number_of at least most (pos n) = if nat_le least n && nat_le n most then Ok (Value.Number n) else Err (OutOfRange at)
number_of at least most (negsuc n) = Err (OutOfRange at)

-- the 16 bytes of a text's UUID (RFC 9562, section 4) as one number, the first byte the highest
abbrev pub uuid_from : KeyPlace → Option (List ℕ) → Result Value WalkFault
uuid_from at None = Err (OutOfRange at)
uuid_from at (Some bytes) = Ok (Value.Uuid (from_be_bytes w128 bytes))

abbrev pub uuid_of : KeyPlace → List ℕ → Result Value WalkFault
uuid_of at text = uuid_from at (parsed text)

-- the place of the first word that is the text, where the words count from a number
unfoldable pub word_from : KeyPlace → ℕ → List (List ℕ) → List ℕ → Result Value WalkFault
word_from at n [] text = Err (OutOfRange at)
word_from at n (word ∷ words) text = if bytes_eq word text then Ok (Value.Word n) else word_from at (n + 1) words text

abbrev pub value_of : KeyPlace → Form → Data → Result Value WalkFault
value_of at forms.Text node = ok_or (as_str node) (WrongKind at) into λ text. Ok (Value.Text text)
value_of at (forms.Number least most) node = ok_or (as_integer node) (WrongKind at) into number_of at least most
value_of at forms.Flag node = ok_or (as_bool node) (WrongKind at) into λ flag. Ok (Value.Flag flag)
value_of at forms.Uuid node = ok_or (as_str node) (WrongKind at) into uuid_of at
value_of at (forms.Word words) node = ok_or (as_str node) (WrongKind at) into word_from at 0 words

-- what stands for a key that is left out
abbrev pub otherwise_of : KeyPlace → Option Value → Result Value WalkFault
otherwise_of at None = Err (MissingKey at)
otherwise_of at (Some default) = Ok default
