-- Hexadecimal digits are text.
use Rattle.std.proofs.Common.{◌≡◌, ◌<◌, ℕ, Bool, true, List, [], ◌∷◌, Result, Ok, Err, MatchResult, IsOk, IsUtf8, IsAscii, nat_lt, refl, arith}
use Rattle.std.specs.List.{list_all}
use Rattle.std.proofs.lemmas.Bool.{and_parts}
use Rattle.std.proofs.lemmas.Bool.Decides.{nat_tests}
use Rattle.std.proofs.lemmas.Str.{IsUtf8-from_ascii}
use Rattle.std.proofs.lemmas.Str.Ascii.{IsAscii-nil, IsAscii-cons}
use Rattle.hex.specs.Hex.{encode_lower, lower_digits}
use Rattle.hex.proofs.HexLemmas.{IsAscii-encode_with}

-- bytes that are each below 128
abbrev are_below_128 : List ℕ → Bool
are_below_128 bytes = list_all (λ byte. nat_lt byte 128) bytes

ascii_when : (bytes : List ℕ) → are_below_128 bytes ≡ true → IsAscii bytes
ascii_when [] below = IsAscii-nil
ascii_when (b ∷ bs) below =
    let parts = and_parts (nat_lt b 128) (are_below_128 bs) below in
    let first : b < 128 = grind (arith, nat_tests, parts.0) in
    IsAscii-cons b bs first (ascii_when bs parts.1)

pub digits_are_text : (bytes text : List ℕ) → text ≡ encode_lower bytes → IsUtf8 text
digits_are_text bytes text is =
    rw is (IsUtf8-from_ascii (encode_lower bytes) (IsAscii-encode_with lower_digits bytes (ascii_when lower_digits refl)))

-- what isn't refused is read
pub ok_where : {A E : Type 0} (result : Result A E) (P : A → Type 0) (Q : E → Type 0) (R : Type 0) → R
    → MatchResult result P (λ e. (R → ⊥) × Q e) → IsOk result
ok_where (Ok x) P Q R holds cases = refl
ok_where (Err e) P Q R holds cases = absurd (cases.0 holds)
