-- Numbers as the words of a command line have them. A word is the list of its bytes.
use Rattle.std.specs.Prelude.{ℕ, ◌+◌, ◌*◌, ◌-◌, ◌&&◌, ◌==◌, Bool, false, not, List, [], ◌∷◌, Option, Some, None, nat_le, if◌then◌else◌}
use Rattle.std.specs.Char.{is_ascii_digit}
use Rattle.std.specs.List.{list_all}
use Rattle.std.specs.Str.Parse.{digits_value}

-- the number of a hexadecimal digit, which is lower-case
abbrev pub digit_of : ℕ → Option ℕ
digit_of digit =
    if nat_le 0x30 digit && nat_le digit 0x39 then Some (digit - 0x30)
    else if nat_le 0x61 digit && nat_le digit 0x66 then Some (digit - 0x57) else None

-- the byte of two digits
abbrev pub byte_from : Option ℕ → Option ℕ → Option ℕ
byte_from (Some high) (Some low) = Some (16 * high + low)
byte_from (Some high) None = None
byte_from None low = None

abbrev pub byte_of : List ℕ → Option ℕ
byte_of (high ∷ low ∷ []) = byte_from (digit_of high) (digit_of low)
byte_of _ = None

-- one decimal digit, or more of which the first is no zero
abbrev pub is_decimal : List ℕ → Bool
is_decimal [] = false
is_decimal (digit ∷ []) = is_ascii_digit digit
is_decimal (first ∷ second ∷ digits) = not (first == 0x30) && list_all is_ascii_digit (first ∷ second ∷ digits)

-- the decimal number that a word is, where it's one from the least to the most
abbrev pub number_within : ℕ → ℕ → List ℕ → Option ℕ
number_within least most word =
    if is_decimal word && nat_le least (digits_value 10 word) && nat_le (digits_value 10 word) most then Some (digits_value 10 word) else None
