-- Digits are read as the bytes that they were written from.
use Rattle.std.proofs.Common.{◌≡◌, ℕ, zero, suc, ◌+◌, ◌*◌, ◌/◌, ◌%◌, ◌<◌, ◌==◌, Bool, true, false, not, ◌&&◌, inl, inr, List, [], ◌∷◌, length}
use Rattle.std.proofs.Common.{slice_index, cond, leb, refl, ap, ◌∙◌, arith}
use Rattle.std.proofs.lemmas.Bool.{and_parts, cases_lt, eqb-true, not-true}
use Rattle.std.specs.List.{AllByRecursion}
use Rattle.std.specs.Int.{bytes_high_first}
use Rattle.vt_outside.proofs.NumberBytes.{byte_small}
use Rattle.hex.specs.Hex.{encode_lower, encode_with, lower_digits}
use Rattle.memory_dump.specs.Rows.{AreBytes}
use Rattle.memory_dump.specs.Reading.{bytes_of, digit_value}

-- none of the bytes is a line feed
abbrev pub HasNoFeed : List ℕ → Type 0
HasNoFeed bytes = AllByRecursion (λ byte. (byte == 10) ≡ false) bytes

-- the test of one digit: it stands for its number, and is no line feed
abbrev reads_back : ℕ → Bool
reads_back value = (digit_value (slice_index lower_digits value) == value) && not (slice_index lower_digits value == 10)

abbrev all_read_back : ℕ → Bool
all_read_back zero = true
all_read_back (suc n) = reads_back n && all_read_back n

read_back_at : (n k : ℕ) → all_read_back n ≡ true → k < n → reads_back k ≡ true
read_back_at zero k all below = absurd (omega arith)
read_back_at (suc n) k all below =
    let parts = and_parts (reads_back n) (all_read_back n) all in
    elim (cases_lt k n) as (λ _. reads_back k ≡ true) [
      | inl lower ↦ read_back_at n k parts.1 lower
      | inr last ↦ let same : k ≡ n = omega arith in rw same parts.0
    ]

digit_back : (value : ℕ) → value < 16 → digit_value (slice_index lower_digits value) ≡ value
digit_back value small = eqb-true _ value (and_parts _ _ (read_back_at 16 value refl small)).0

digit_no_feed : (value : ℕ) → value < 16 → (slice_index lower_digits value == 10) ≡ false
digit_no_feed value small = not-true _ (and_parts (digit_value (slice_index lower_digits value) == value) _ (read_back_at 16 value refl small)).1

-- digits are read as the bytes that they were written from
pub bytes_of-digits : (bytes : List ℕ) → AreBytes bytes → bytes_of (encode_lower bytes) ≡ bytes
unfolding encode_with bytes_of
bytes_of-digits [] are = refl
bytes_of-digits (byte ∷ bytes) are =
    let small : byte < 256 = are.0 in
    let high = slice_index lower_digits (byte / 16) in
    let low = slice_index lower_digits (byte % 16) in
    let of_high : digit_value high ≡ byte / 16 = digit_back (byte / 16) (omega arith) in
    let of_low : digit_value low ≡ byte % 16 = digit_back (byte % 16) (omega arith) in
    let whole : byte / 16 * 16 + byte % 16 ≡ byte = omega arith in
    ap (λ (v : ℕ). (v * 16 + digit_value low) ∷ bytes_of (encode_lower bytes)) of_high
    ∙ ap (λ (v : ℕ). (byte / 16 * 16 + v) ∷ bytes_of (encode_lower bytes)) of_low
    ∙ ap (λ (v : ℕ). v ∷ bytes_of (encode_lower bytes)) whole
    ∙ ap (λ (rest : List ℕ). byte ∷ rest) (bytes_of-digits bytes are.1)

-- and have no line feed
pub digits_no_feed : (bytes : List ℕ) → AreBytes bytes → HasNoFeed (encode_lower bytes)
unfolding encode_with
digits_no_feed [] are = tt
digits_no_feed (byte ∷ bytes) are =
    let small : byte < 256 = are.0 in
    (digit_no_feed (byte / 16) (omega arith), (digit_no_feed (byte % 16) (omega arith), digits_no_feed bytes are.1))

-- whatever is read as digits gives bytes
small_if : (test : Bool) (a b : ℕ) → a < 16 → b < 16 → cond test a b < 16
small_if true a b first second = first
small_if false a b first second = second

pub digit_small : (digit : ℕ) → digit_value digit < 16
digit_small digit = small_if (leb digit 57) (digit % 16) ((digit + 9) % 16) (omega arith) (omega arith)

pub bytes_of_are : (digits : List ℕ) → AreBytes (bytes_of digits)
unfolding bytes_of
bytes_of_are [] = tt
bytes_of_are (digit ∷ []) = tt
bytes_of_are (high ∷ low ∷ digits) =
    let a : digit_value high < 16 = digit_small high in
    let b : digit_value low < 16 = digit_small low in
    (both (digit_value high) (digit_value low) a b, bytes_of_are digits)
  where
    both : (h l : ℕ) → h < 16 → l < 16 → h * 16 + l < 256
    both h l a b = omega arith

-- one for each two
pub length-bytes_of : (n : ℕ) (digits : List ℕ) → length digits ≡ 2 * n → length (bytes_of digits) ≡ n
unfolding bytes_of
length-bytes_of zero [] size = refl
length-bytes_of (suc n) [] size = absurd (omega arith)
length-bytes_of zero (digit ∷ digits) size = absurd (omega arith)
length-bytes_of (suc n) (digit ∷ []) size = absurd (omega arith)
length-bytes_of (suc n) (high ∷ low ∷ digits) size = ap suc (length-bytes_of n digits (omega arith))

pub number_bytes : (k n : ℕ) → AreBytes (bytes_high_first k n)
number_bytes zero n = tt
number_bytes (suc k) n = (byte_small k n, number_bytes k n)
