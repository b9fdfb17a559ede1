-- Numbers in bytes, from either end.
use Rattle.std.proofs.Common.{◌≡◌, ℕ, zero, suc, ◌+◌, ◌-◌, ◌*◌, ◌/◌, ◌%◌, ◌^◌, ◌<◌, ◌≤◌, List, [], ◌∷◌, ◌++◌, reverse, length, slice_index, take}
use Rattle.std.proofs.Common.{drop, bit_or, arith, refl, ap, sym, ◌∙◌}
use Rattle.std.specs.Int.{bytes_low_first, bytes_high_first, byte_at, to_le_bytes, to_be_bytes, w64}
use Rattle.std.proofs.Math.Nat.{div-div-eq-div-mul, div-one, pow-suc, pow-le-pow_right}
use Rattle.std.proofs.lemmas.Grind.{pow_more}
use Rattle.std.proofs.lemmas.List.{drop_more, take_more, reverse-append}
use Rattle.std.proofs.lemmas.Nat.{or_shifted}
use Rattle.vt_bytes.specs.Numbers.{le, be, le_bytes, be_bytes}

-- the first bytes of a field are those of a shorter field
pub take-bytes_low_first : (k m i n : ℕ) → k ≤ m → take k (bytes_low_first i m n) ≡ bytes_low_first i k n
take-bytes_low_first zero m i n h = refl
take-bytes_low_first (suc k) zero i n h = absurd (omega arith)
take-bytes_low_first (suc k) (suc m) i n h = ap (λ bytes. byte_at i n ∷ bytes) (take-bytes_low_first k m (suc i) n (omega arith))

-- the bytes of a number from one of its bytes on
pub le_bytes-from : (k i n : ℕ) → le_bytes k (n / 256 ^ i) ≡ bytes_low_first i k n
le_bytes-from zero i n = refl
le_bytes-from (suc k) zero n = ap (le_bytes (suc k)) (div-one n) ∙ ap (λ rest. n % 256 ∷ rest) (le_bytes-from k 1 n)
le_bytes-from (suc k) (suc i) n =
    let shifted : n / 256 ^ suc i / 256 ≡ n / 256 ^ suc (suc i) = div-div-eq-div-mul n (256 ^ suc i) 256 ∙ ap (λ d. n / d) (sym (pow-suc 256 (suc i))) in
    ap (λ m. n / 256 ^ suc i % 256 ∷ le_bytes k m) shifted ∙ ap (λ rest. n / 256 ^ suc i % 256 ∷ rest) (le_bytes-from k (suc (suc i)) n)

-- the bytes of a number in a field
pub le_bytes-whole : (k n : ℕ) → bytes_low_first 0 k n ≡ le_bytes k n
le_bytes-whole k n = sym (le_bytes-from k 0 n) ∙ ap (le_bytes k) (div-one n)

-- the first bytes of a number in a field of 8 are those of a shorter field
pub le_bytes-short : (size n : ℕ) → size ≤ 8 → take size (to_le_bytes w64 n) ≡ le_bytes size n
le_bytes-short size n h = take-bytes_low_first size 8 0 n h ∙ le_bytes-whole size n

-- the bytes of a number that fits its field spell it
pub le-le_bytes : (k n : ℕ) → n < 256 ^ k → le (le_bytes k n) ≡ n
le-le_bytes zero n fits = omega arith
le-le_bytes (suc k) n fits =
    let power : 256 ^ (k + 1) ≡ 256 ^ k * 256 = pow_more 256 k in
    let more : suc k ≡ k + 1 = omega arith in
    let bound : 256 ^ suc k ≡ 256 ^ (k + 1) = ap (λ j. 256 ^ j) more in
    let rest : le (le_bytes k (n / 256)) ≡ n / 256 = le-le_bytes k (n / 256) (omega arith) in
    omega arith

-- as many bytes as the field has
pub length-le_bytes : (size n : ℕ) → length (le_bytes size n) ≡ size
length-le_bytes zero n = refl
length-le_bytes (suc size) n = ap suc (length-le_bytes size (n / 256))

-- one more byte at the high end
bytes_low_first-more : (i k n : ℕ) → bytes_low_first i (suc k) n ≡ bytes_low_first i k n ++ byte_at (i + k) n ∷ []
bytes_low_first-more i zero n =
    let place : i ≡ i + zero = omega arith in
    ap (λ j. byte_at j n ∷ []) place
bytes_low_first-more i (suc k) n =
    let place : suc i + k ≡ i + suc k = omega arith in
    ap (λ bytes. byte_at i n ∷ bytes) (bytes_low_first-more (suc i) k n ∙ ap (λ j. bytes_low_first (suc i) k n ++ byte_at j n ∷ []) place)

-- from the other end
pub bytes_high_first-reverse : (k n : ℕ) → bytes_high_first k n ≡ reverse (bytes_low_first 0 k n)
bytes_high_first-reverse zero n = refl
bytes_high_first-reverse (suc k) n =
    let place : 0 + k ≡ k = omega arith in
    let low : bytes_low_first 0 (suc k) n ≡ bytes_low_first 0 k n ++ byte_at k n ∷ [] =
    bytes_low_first-more 0 k n ∙ ap (λ j. bytes_low_first 0 k n ++ byte_at j n ∷ []) place in
    ap (λ bytes. byte_at k n ∷ bytes) (bytes_high_first-reverse k n) ∙ sym (ap reverse low ∙ reverse-append (bytes_low_first 0 k n) (byte_at k n ∷ []))

-- the last bytes of a field, high byte first, are those of a shorter field
drop-bytes_high_first : (k m n : ℕ) → drop k (bytes_high_first (k + m) n) ≡ bytes_high_first m n
drop-bytes_high_first zero m n =
    let count : zero + m ≡ m = omega arith in
    ap (λ j. bytes_high_first j n) count
drop-bytes_high_first (suc k) m n =
    let count : suc k + m ≡ suc (k + m) = omega arith in
    ap (λ j. drop (suc k) (bytes_high_first j n)) count ∙ drop-bytes_high_first k m n

-- the same of a number in a field of 8
pub be_bytes-short : (size n : ℕ) → size ≤ 8 → drop (8 - size) (to_be_bytes w64 n) ≡ be_bytes size n
be_bytes-short size n h =
    let count : 8 ≡ 8 - size + size = omega arith in
    ap (λ j. drop (8 - size) (bytes_high_first j n)) count ∙ drop-bytes_high_first (8 - size) size n ∙ bytes_high_first-reverse size n
    ∙ ap reverse (le_bytes-whole size n)

-- a number in 8 bits more than it had, with a byte at its low end, as the code computes it
pub record Pushed (bytes : List ℕ) (n number byte : ℕ) : Type 0 where
  pub value : bit_or (number * 256 % 0x10000000000000000) byte ≡ byte + 256 * le bytes
  pub small : bit_or (number * 256 % 0x10000000000000000) byte < 256 ^ (n + 1)

-- it is the number of the bytes with one more at the low end
pub pushed : (bytes : List ℕ) (n number byte : ℕ) → n < 8 → number ≡ le bytes → number < 256 ^ n → byte < 256 → Pushed bytes n number byte
pushed bytes n number byte l value small fits =
    let power : 256 ^ (n + 1) ≡ 256 ^ n * 256 = pow_more 256 n in
    let most : 256 ^ n ≤ 256 ^ 7 = pow-le-pow_right {n = 256} (omega arith) {i = n} {j = 7} (omega arith) in
    let whole : number * 256 % 0x10000000000000000 ≡ number * 256 = omega arith in
    let joined : bit_or (number * 256 % 0x10000000000000000) byte ≡ number * 256 + byte = ap (λ x. bit_or x byte) whole ∙ or_shifted number 8 byte fits in
    record { value = omega arith; small = omega arith }

-- a part that begins a byte before another
pub le_before : (bytes : List ℕ) (i k : ℕ) → i < length bytes → le (take (k + 1) (drop i bytes)) ≡ slice_index bytes i + 256 * le (take k (drop (i + 1) bytes))
le_before bytes i k within =
    let one_more : k + 1 ≡ suc k = omega arith in
    ap (λ j. le (take j (drop i bytes))) one_more ∙ ap (λ rest. le (take (suc k) rest)) (drop_more bytes i 0 within)

-- the first bytes and the next one, high byte first
pub be_more : (bytes : List ℕ) (i : ℕ) → i < length bytes → be (take (i + 1) bytes) ≡ slice_index bytes i + 256 * be (take i bytes)
be_more bytes i within =
    ap be (take_more bytes i 0 within) ∙ ap le (reverse-append (take i bytes) (slice_index bytes i ∷ []))
