-- Decimal numbers as std reads and writes them.
use Rattle.std.proofs.Common.{rules, leb, false, inl, inr, ◌≡◌, ◌≢◌, ℕ, ◌<◌, ◌≤◌, ◌^◌, List, [], ◌∷◌, true, length, get_or, Ok, Err, Result, None, arith}
use Rattle.std.proofs.lemmas.Bool.{and_parts, ne_eqb}
use Rattle.std.proofs.lemmas.Bool.Decides.{nat_tests, leb_tells}
use Rattle.std.proofs.lemmas.Grind.{common_steps}
use Rattle.std.proofs.lemmas.Str.Parse.{IsNumeralModel, numerals_by_value, parse_digits}
use Rattle.std.specs.Char.{is_ascii_digit}
use Rattle.std.specs.List.{list_all}
use Rattle.std.specs.Result.{OkIff, result_ok}
use Rattle.std.specs.Str.Parse.{digits_value, ParsesUnsigned}
use Rattle.word_schema.specs.Numbers.{is_decimal, number_within}

-- texts of digits, and the number of each
pub own : IsNumeralModel (λ word. list_all is_ascii_digit word ≡ true) (digits_value 10)
own = numerals_by_value _ (search rules)

-- a decimal word is digits
pub digits_of_decimal : (word : List ℕ) → is_decimal word ≡ true → list_all is_ascii_digit word ≡ true
digits_of_decimal [] h = cc
digits_of_decimal (digit ∷ []) h = grind (arith, common_steps)
digits_of_decimal (first ∷ second ∷ digits) h = (and_parts _ _ h).1

pub decimal_not_empty : (word : List ℕ) → is_decimal word ≡ true → 0 < length word
decimal_not_empty [] h = cc
decimal_not_empty (digit ∷ digits) h = omega arith

-- what std reads of a decimal word
pub parsed_decimal : {E : Type 0} → (word : List ℕ) (r : Result ℕ E) → ParsesUnsigned 64 10 word r → is_decimal word ≡ true
    → OkIff r ((0 < length word) × (digits_value 10 word < 2 ^ 64)) (digits_value 10 word)
parsed_decimal word r h decimal = parse_digits own 64 word r h (digits_of_decimal word decimal)

-- what a decimal word is whose first byte is no zero
pub is_decimal-nonzero : (word : List ℕ) → 1 ≤ length word → get_or word 0 0 ≢ 48 → is_decimal word ≡ list_all is_ascii_digit word
is_decimal-nonzero [] some nonzero = absurd (omega arith)
is_decimal-nonzero (digit ∷ []) some nonzero = grind (arith, common_steps)
is_decimal-nonzero (first ∷ second ∷ digits) some nonzero = rw (ne_eqb first 48 nonzero)

-- where std reads no number of 64 bits, there is none up to one of 64 bits
pub number_within-unread : {E : Type 0} → (least most : ℕ) (word : List ℕ) (r : Result ℕ E) → most < 2 ^ 64 → ParsesUnsigned 64 10 word r
    → is_decimal word ≡ true → result_ok r ≡ None → number_within least most word ≡ None
number_within-unread least most word (Ok n) small parsed decimal failed = cc
number_within-unread least most word (Err e) small parsed decimal failed =
    let unread = parsed_decimal word (Err e) parsed decimal in
    let some = decimal_not_empty word decimal in
    let above : leb (digits_value 10 word) most ≡ false = elim (leb_tells (digits_value 10 word) most)
    [ inl fits ↦ absurd (unread (some, omega arith)) | inr exceeds ↦ exceeds.0 ] in
    grind (arith, nat_tests)
