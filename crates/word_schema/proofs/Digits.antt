-- Bytes, numbers and words of a set as they are written.
use Rattle.std.proofs.Common.{◌≡◌, ◌≢◌, ℕ, suc, zero, ◌+◌, ◌*◌, ◌<◌, ◌≤◌, ◌^◌, ◌/◌, ◌%◌, true, false, cond, length, get_or, List, []}
use Rattle.std.proofs.Common.{◌∷◌, Option, Some, None, option_map, subst, arith, refl, ap, sym, ◌∙◌}
use Rattle.std.proofs.lemmas.Bool.Decides.{nat_tests}
use Rattle.std.proofs.lemmas.Fmt.{decimal_digit, decimal_nonempty, digits_decimal, digits_value-decimal, first_decimal}
use Rattle.std.specs.Char.{digit_char}
use Rattle.std.specs.Fmt.{decimal}
use Rattle.std.specs.Str.{bytes_eq}
use Rattle.std.specs.Str.Parse.{digits_value}
use Rattle.word_schema.specs.Given.{place_of}
use Rattle.word_schema.specs.Numbers.{byte_from, byte_of, digit_of, is_decimal, number_within}
use Rattle.word_schema.specs.Written.{hex_digits}
use Rattle.word_schema.proofs.Decimals.{own, is_decimal-nonzero}
use Rattle.word_schema.proofs.Found.{mapped, same_from, same_text}

-- a number that is written in decimal is read
decimal_is_decimal : (number : ℕ) → number < 2 ^ 64 → is_decimal (decimal number) ≡ true
decimal_is_decimal zero small = ap is_decimal (decimal_digit 0 (omega arith))
decimal_is_decimal (suc n) small =
    let first = first_decimal (suc n) (omega arith) small in
    let some = decimal_nonempty (suc n) small in
    is_decimal-nonzero (decimal (suc n)) (omega arith) (λ zero_first. omega arith) ∙ digits_decimal own (suc n) small

pub read_number : (least most number : ℕ) → most < 2 ^ 64 → least ≤ number → number ≤ most → number_within least most (decimal number) ≡ Some number
read_number least most number small above below =
    let fits : number < 2 ^ 64 = omega arith in
    let decimal_too = decimal_is_decimal number fits in
    let value : digits_value 10 (decimal number) ≡ number = digits_value-decimal own number fits in
    rw (decimal_too, value) (grind (arith, nat_tests))

-- a digit, and its number
digit_of-digit_char : (number : ℕ) → number < 16 → digit_of (digit_char number) ≡ Some number
digit_of-digit_char number small = grind (arith, nat_tests)

digit_char-digit_of : (digit number : ℕ) → digit_of digit ≡ Some number → (number < 16) × (digit ≡ digit_char number)
digit_char-digit_of digit number e = grind (arith, nat_tests)

-- the numbers of the digits of a byte
numbers_of : (high low : Option ℕ) (byte : ℕ) → byte_from high low ≡ Some byte
    → (h : ℕ) × (l : ℕ) × (high ≡ Some h) × (low ≡ Some l) × (16 * h + l ≡ byte)
numbers_of (Some h) (Some l) byte e = (h, l, refl, refl, cc)
numbers_of (Some h) None byte e = absurd (cc)
numbers_of None low byte e = absurd (cc)

pub written_byte : (word : List ℕ) (byte : ℕ) → byte_of word ≡ Some byte → (byte < 256) × (word ≡ hex_digits byte)
written_byte [] byte e = absurd (cc)
written_byte (high ∷ []) byte e = absurd (cc)
written_byte (high ∷ low ∷ []) byte e =
    let parts = numbers_of (digit_of high) (digit_of low) byte e in
    let h = parts.0 in
    let l = parts.1 in
    let of_high = digit_char-digit_of high h parts.2 in
    let of_low = digit_char-digit_of low l parts.3 in
    let small : h < 16 = of_high.0 in
    let small_too : l < 16 = of_low.0 in
    let sum : 16 * h + l ≡ byte = parts.4 in
    let is_high : h ≡ byte / 16 = omega arith in
    let is_low : l ≡ byte % 16 = omega arith in
    let a : high ≡ digit_char (byte / 16) = of_high.1 ∙ ap digit_char is_high in
    let b : low ≡ digit_char (byte % 16) = of_low.1 ∙ ap digit_char is_low in
    (omega arith, cc)
written_byte (high ∷ low ∷ another ∷ more) byte e = absurd (cc)

pub read_byte : (byte : ℕ) → byte < 256 → byte_of (hex_digits byte) ≡ Some byte
read_byte byte small =
    let high : digit_of (digit_char (byte / 16)) ≡ Some (byte / 16) = digit_of-digit_char (byte / 16) (omega arith) in
    let low : digit_of (digit_char (byte % 16)) ≡ Some (byte % 16) = digit_of-digit_char (byte % 16) (omega arith) in
    let sum : 16 * (byte / 16) + byte % 16 ≡ byte = omega arith in
    rw (high, low) (ap Some sum)

-- a word of a set is read as its first place

differs : (a b : List ℕ) → bytes_eq a b ≡ false → b ≢ a
differs a b e same = absurd (cc (subst (λ (c : List ℕ). bytes_eq a c ≡ false) same e, same_text a))

later_too : (word other : List ℕ) (others : List (List ℕ)) (place : ℕ) → bytes_eq word other ≡ false → ((k : ℕ) → k < place → get_or others k [] ≢ word)
    → (k : ℕ) → k < suc place → get_or (other ∷ others) k [] ≢ word
later_too word other others place is later zero below = differs word other is
later_too word other others place is later (suc k) below = later k (omega arith)

pub first_place : (word : List ℕ) (words : List (List ℕ)) (place : ℕ) → place_of word words ≡ Some place
    → (place < length words) × (get_or words place [] ≡ word) × ((k : ℕ) → k < place → get_or words k [] ≢ word)
first_place word [] place e = absurd (cc)
first_place word (other ∷ others) place e =
    elim (bytes_eq word other)
    as (λ is. (bytes_eq word other ≡ is) → cond is (Some 0) (option_map (λ place. suc place) (place_of word others)) ≡ Some place
    → (place < length (other ∷ others)) × (get_or (other ∷ others) place [] ≡ word) × ((k : ℕ) → k < place → get_or (other ∷ others) k [] ≢ word)) [
      | true ↦ λ is e.
          let zero_is : 0 ≡ place = cc in
          subst (λ (n : ℕ). (n < length (other ∷ others)) × (get_or (other ∷ others) n [] ≡ word) × ((k : ℕ) → k < n
          → get_or (other ∷ others) k [] ≢ word)) zero_is
          (omega arith, sym (same_from word other is), λ k below. absurd (omega arith))
      | false ↦ λ is e.
          let found = mapped _ (place_of word others) place e in
          let later = first_place word others found.0 found.1 in
          subst (λ (n : ℕ). (n < length (other ∷ others)) × (get_or (other ∷ others) n [] ≡ word) × ((k : ℕ) → k < n
          → get_or (other ∷ others) k [] ≢ word)) found.2
          (omega (arith, later.0), later.1, later_too word other others found.0 is later.2)
    ] refl e

pub place_from : (word : List ℕ) (words : List (List ℕ)) (place : ℕ) → place < length words → get_or words place [] ≡ word
    → ((k : ℕ) → k < place → get_or words k [] ≢ word) → place_of word words ≡ Some place
place_from word [] place within is none = absurd (omega arith)
place_from word (other ∷ others) zero within is none = rw (← is, same_text other) refl
place_from word (other ∷ others) (suc place) within is none =
    let later = place_from word others place (omega arith) is (λ k below. none (suc k) (omega arith)) in
    elim (bytes_eq word other)
    as (λ same. (bytes_eq word other ≡ same) → cond same (Some 0) (option_map (λ place. suc place) (place_of word others)) ≡ Some (suc place)) [
      | true ↦ λ same. absurd (none 0 (omega arith) (sym (same_from word other same)))
      | false ↦ λ same. rw later refl
    ] refl
