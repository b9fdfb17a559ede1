-- Digits that are read pair by pair.
use Rattle.std.proofs.Common.{◌≡◌, ℕ, ◌+◌, ◌*◌, ◌<◌, ◌≤◌, List, [], ◌∷◌, ◌++◌, length, take, drop, slice_index, slice_set, ap, sym, ◌∙◌, arith, append_assoc}
use Rattle.std.proofs.lemmas.List.{append-nil, drop_all, take_all, take_more_set}
use Rattle.hex.proofs.Pairs.{drop-pair}
use Rattle.memory_dump.specs.Reading.{bytes_of, digit_value}

-- the bytes of the digits from a pair on
bytes_of-drop : (digits : List ℕ) (i : ℕ) → 2 * i + 1 < length digits
    → bytes_of (drop (2 * i) digits)
    ≡ (digit_value (slice_index digits (2 * i)) * 16 + digit_value (slice_index digits (2 * i + 1))) ∷ bytes_of (drop (2 * (i + 1)) digits)
unfolding bytes_of
bytes_of-drop digits i within = ap bytes_of (drop-pair digits i within)

-- one more byte is read
pub byte_more : (digits bytes : List ℕ) (i v high low : ℕ) → i < length bytes → 2 * i + 1 < length digits
    → high ≡ digit_value (slice_index digits (2 * i)) → low ≡ digit_value (slice_index digits (2 * i + 1)) → v ≡ high * 16 + low
    → take i bytes ++ bytes_of (drop (2 * i) digits) ≡ bytes_of digits
    → take (i + 1) (slice_set bytes i v) ++ bytes_of (drop (2 * (i + 1)) digits) ≡ bytes_of digits
byte_more digits bytes i v high low room within is_high is_low is so_far =
    let rest : List ℕ = bytes_of (drop (2 * (i + 1)) digits) in
    let byte : v ≡ digit_value (slice_index digits (2 * i)) * 16 + digit_value (slice_index digits (2 * i + 1)) =
    is ∙ ap (λ (h : ℕ). h * 16 + low) is_high ∙ ap (λ (l : ℕ). digit_value (slice_index digits (2 * i)) * 16 + l) is_low in
    ap (λ (front : List ℕ). front ++ rest) (take_more_set bytes i v room) ∙ append_assoc (take i bytes) (v ∷ []) rest
    ∙ ap (λ (b : ℕ). take i bytes ++ (b ∷ rest)) byte ∙ ap (λ (more : List ℕ). take i bytes ++ more) (sym (bytes_of-drop digits i within)) ∙ so_far

-- all are
pub bytes_done : (digits bytes : List ℕ) (i : ℕ) → length bytes ≤ i → length digits ≡ 2 * length bytes
    → take i bytes ++ bytes_of (drop (2 * i) digits) ≡ bytes_of digits → bytes ≡ bytes_of digits
unfolding bytes_of
bytes_done digits bytes i all size so_far =
    let d = drop_all (2 * i) digits (omega arith) in
    let a = take_all i bytes all in
    rw (d, a, append-nil) at so_far
