-- Parts of bytes of which some are put or set.
use Rattle.std.proofs.Common.{◌≡◌, ◌≢◌, ℕ, zero, suc, ◌+◌, ◌-◌, ◌%◌, ◌<◌, ◌≤◌, ◌⊎◌, inl, inr, List, [], ◌∷◌, ◌++◌, length, slice_index, slice_set, take, drop}
use Rattle.std.proofs.Common.{sum, refl, arith, ap, sym, ◌∙◌, length-set, length-take, length-drop, get_or-take, get_or-drop, get_or-set_other, min}
use Rattle.std.proofs.lemmas.List.{append_assoc, length-append, drop-set-add, same_lists, get_or_default, take_at, drop_at, length-take-le}
use Rattle.std.proofs.lemmas.List.Sums.{sum_by-set}
use Rattle.vt_bytes.specs.Numbers.{le, byte_sum}
use Rattle.vt_bytes.specs.Parts.{part, put_at}
use Rattle.vt_bytes.proofs.Numbers.{le_before}
use Rattle.vt_bytes.proofs.PutAt.{length-put_at, index-beside_put}

-- lists of one length that agree in a part have the same part
pub part_same : (xs ys : List ℕ) (at n : ℕ) → length xs ≡ length ys
    → ((place : ℕ) → at ≤ place → place < at + n → slice_index xs place ≡ slice_index ys place) → part xs at n ≡ part ys at n
part_same xs ys at n size same =
    let as_long : length (part xs at n) ≡ length (part ys at n) = simp (length-take, length-drop) (ap (λ k. min n (k - at)) size) in
    same_lists (part xs at n) (part ys at n) as_long (λ k d l.
    let below : k < n = omega (arith, length-take n (drop at xs)) in
    get_or_default (part xs at n) k d 0 l
    ∙ get_or-take n (drop at xs) k 0 below ∙ get_or-drop at xs k 0
    ∙ same (at + k) (omega arith) (omega arith)
    ∙ sym (get_or-take n (drop at ys) k 0 below ∙ get_or-drop at ys k 0)
    ∙ get_or_default (part ys at n) k 0 d (omega arith))

-- a part that is put is what was put there
pub part-put : (bytes : List ℕ) (at : ℕ) (piece : List ℕ) → at + length piece ≤ length bytes → part (put_at bytes at piece) at (length piece) ≡ piece
part-put bytes at piece within =
    let front : length (take at bytes) ≡ at = length-take-le at bytes (omega arith) in
    let behind = drop (at + length piece) bytes in
    ap (λ all. part all at (length piece)) (append_assoc (take at bytes) piece behind)
    ∙ ap (take (length piece)) (drop_at (take at bytes) (piece ++ behind) at front)
    ∙ take_at piece behind (length piece) refl

-- bytes of one length have one length once the same is put into them
pub length-put_same : (xs ys : List ℕ) (at : ℕ) (piece : List ℕ) → length xs ≡ length ys → length (put_at xs at piece) ≡ length (put_at ys at piece)
length-put_same xs ys at piece size =
    let sized : (zs : List ℕ) → length (put_at zs at piece) ≡ min at (length zs) + length piece + (length zs - (at + length piece)) =
    λ zs. simp (length-append, length-take, length-drop) in
    sized xs ∙ ap (λ n. min at n + length piece + (n - (at + length piece))) size ∙ sym (sized ys)

-- a part beside it stays
pub part-beside_put : (bytes : List ℕ) (place : ℕ) (piece : List ℕ) (at n : ℕ) → place + length piece ≤ length bytes
    → (at + n ≤ place) ⊎ (place + length piece ≤ at) → part (put_at bytes place piece) at n ≡ part bytes at n
part-beside_put bytes place piece at n within beside =
    part_same (put_at bytes place piece) bytes at n (length-put_at bytes place piece within)
    (λ k from below. index-beside_put bytes place piece k within
    (elim beside as (λ _. (k < place) ⊎ (place + length piece ≤ k)) [ inl before ↦ inl (omega arith) | inr behind ↦ inr (omega arith) ]))

-- a part beside a byte that is set stays
pub part-beside_set : (bytes : List ℕ) (place byte at n : ℕ) → (place < at) ⊎ (at + n ≤ place) → part (slice_set bytes place byte) at n ≡ part bytes at n
part-beside_set bytes place byte at n beside =
    part_same (slice_set bytes place byte) bytes at n (length-set bytes place byte)
    (λ k from below.
    let other : k ≢ place = omega (arith, beside) in
    get_or-set_other bytes place k byte 0 other)

-- a part of one byte spells it
pub part-one : (bytes : List ℕ) (at : ℕ) → at < length bytes → le (part bytes at 1) ≡ slice_index bytes at
part-one bytes at within = omega (arith, le_before bytes at 0 within)

-- a byte that is set stands in the first ones
take-set_inside : (n : ℕ) (bytes : List ℕ) (k byte : ℕ) → k < n → take n (slice_set bytes k byte) ≡ slice_set (take n bytes) k byte
take-set_inside zero bytes k byte l = absurd (omega arith)
take-set_inside (suc n) [] k byte l = refl
take-set_inside (suc n) (first ∷ bytes) zero byte l = refl
take-set_inside (suc n) (first ∷ bytes) (suc k) byte l = ap (λ rest. first ∷ rest) (take-set_inside n bytes k byte (omega arith))

-- and in a part
part-set : (bytes : List ℕ) (start at n byte : ℕ) → start ≤ at → at < start + n
    → part (slice_set bytes at byte) start n ≡ slice_set (part bytes start n) (at - start) byte
part-set bytes start at n byte from below =
    let place : at ≡ start + (at - start) = omega arith in
    ap (λ k. take n (drop start (slice_set bytes k byte))) place
    ∙ ap (take n) (drop-set-add start bytes (at - start) byte)
    ∙ take-set_inside n (drop start bytes) (at - start) byte (omega arith)

-- bytes with the sum of a range subtracted from one of them
abbrev pub summed : List ℕ → ℕ → ℕ → ℕ → List ℕ
summed bytes offset start count = slice_set bytes offset ((slice_index bytes offset + (256 - byte_sum (part bytes start count))) % 256)

pub length-summed : (bytes : List ℕ) (offset start count : ℕ) → length (summed bytes offset start count) ≡ length bytes
length-summed bytes offset start count = length-set bytes offset _

-- The sum of a part, once a byte of it has the sum subtracted, is zero.
zero_sum : (s x after : ℕ) → after + x ≡ s + (x + (256 - s % 256)) % 256 → after % 256 ≡ 0
zero_sum s x after e = omega arith

-- the range sums to zero where the byte is in it
pub sum-summed : (bytes : List ℕ) (offset start count : ℕ) → start + count ≤ length bytes → start ≤ offset → offset < start + count
    → byte_sum (part (summed bytes offset start count) start count) ≡ 0
sum-summed bytes offset start count within from below =
    let range = part bytes start count in
    let value = (slice_index bytes offset + (256 - byte_sum range)) % 256 in
    let k = offset - start in
    let size : length range ≡ count = simp (length-take, length-drop) (omega arith) in
    let place : start + k ≡ offset = omega arith in
    let byte : slice_index range k ≡ slice_index bytes offset =
    get_or-take count (drop start bytes) k 0 (omega arith) ∙ get_or-drop start bytes k 0 ∙ ap (slice_index bytes) place in
    let set = sum_by-set (λ x. x) range k value 0 (omega arith) in
    ap byte_sum (part-set bytes start offset count value from below)
    ∙ zero_sum (sum range) (slice_index bytes offset) (sum (slice_set range k value)) (ap (λ x. sum (slice_set range k value) + x) (sym byte) ∙ set)
