-- Sum bytes, and the ranges that they make sum to zero.
use Rattle.std.proofs.Common.{◌≡◌, ℕ, zero, suc, ◌+◌, ◌-◌, ◌%◌, ◌<◌, ◌≤◌, ◌⊎◌, ◌≢◌, inl, inr, List, [], ◌∷◌, ◌++◌, length, slice_index, slice_set, take}
use Rattle.std.proofs.Common.{drop, sum, arith, refl, ap, sym, ◌∙◌, length-set, length-take, length-drop, get_or-take, get_or-drop, get_or-set_other}
use Rattle.std.specs.List.{AllByRecursion}
use Rattle.std.proofs.lemmas.List.{drop-set-add}
use Rattle.std.proofs.lemmas.List.Sums.{sum_by-set}
use Rattle.vt_bytes.specs.Numbers.{byte_sum}
use Rattle.vt_bytes.specs.Parts.{part}
use Rattle.blob_holes.specs.declared.hole.SumHole.{SumHole}
use Rattle.blob_holes.specs.Blob.{AreSums}
use Rattle.blob_holes.specs.Filled.{with_sums, AreInOrder}
use Rattle.vt_bytes.proofs.Each.{each_weaker, each_push}
use Rattle.blob_holes.proofs.Put.{part_same}

-- a byte is not that of a sum
abbrev pub IsOther : ℕ → SumHole → Type 0
IsOther place hole = (place < hole.at) ⊎ (hole.at < place)

-- sums stay in a file that is no shorter
pub AreSums-longer : (bytes more : List ℕ) (holes : List SumHole) → length bytes ≤ length more → AreSums bytes holes → AreSums more holes
AreSums-longer bytes more [] l h = tt
AreSums-longer bytes more (hole ∷ holes) l h = (omega arith, h.1, h.2, h.3, AreSums-longer bytes more holes l h.4)

-- one more sum, whose byte is no other's
pub AreSums-push : (bytes : List ℕ) (holes : List SumHole) (hole : SumHole) → AreSums bytes holes → hole.start + hole.length ≤ length bytes
    → hole.start ≤ hole.at → hole.at < hole.start + hole.length → AllByRecursion (IsOther hole.at) holes → AreSums bytes (holes ++ hole ∷ [])
AreSums-push bytes [] hole h within from below others = (within, from, below, tt, tt)
AreSums-push bytes (first ∷ holes) hole h within from below others =
    let turned : IsOther first.at hole = elim others.0 [ inl a ↦ inr a | inr a ↦ inl a ] in
    (h.0, h.1, h.2, each_push (IsOther first.at) holes hole h.3 turned, AreSums-push bytes holes hole h.4 within from below others.1)

-- a byte that is set stands in the first ones
take-set_inside : (n : ℕ) (bytes : List ℕ) (k byte : ℕ) → k < n → take n (slice_set bytes k byte) ≡ slice_set (take n bytes) k byte
take-set_inside zero bytes k byte l = absurd (omega arith)
take-set_inside (suc n) [] k byte l = refl
take-set_inside (suc n) (first ∷ bytes) zero byte l = refl
take-set_inside (suc n) (first ∷ bytes) (suc k) byte l = ap (λ rest. first ∷ rest) (take-set_inside n bytes k byte (omega arith))

-- and in a part
part-set : (bytes : List ℕ) (start at n byte : ℕ) → start ≤ at → at < start + n → part (slice_set bytes at byte) start n ≡ slice_set (part bytes start n)
    (at - start) byte
part-set bytes start at n byte from below =
    let place : at ≡ start + (at - start) = omega arith in
    ap (λ k. take n (drop start (slice_set bytes k byte))) place
    ∙ ap (take n) (drop-set-add start bytes (at - start) byte)
    ∙ take-set_inside n (drop start bytes) (at - start) byte (omega arith)

-- The sum of a part, once a byte of it has the sum subtracted, is zero.
zero_sum : (s x after : ℕ) → after + x ≡ s + (x + (256 - s % 256)) % 256 → after % 256 ≡ 0
zero_sum s x after e = omega arith

-- the bytes with the first sum subtracted from its byte
abbrev pub one_summed : List ℕ → SumHole → List ℕ
one_summed bytes hole = slice_set bytes hole.at ((slice_index bytes hole.at + (256 - byte_sum (part bytes hole.start hole.length))) % 256)

-- the range of that sum then sums to zero
sum-one_summed : (bytes : List ℕ) (hole : SumHole) → hole.start + hole.length ≤ length bytes → hole.start ≤ hole.at → hole.at < hole.start + hole.length
    → byte_sum (part (one_summed bytes hole) hole.start hole.length) ≡ 0
sum-one_summed bytes hole within from below =
    let range = part bytes hole.start hole.length in
    let value = (slice_index bytes hole.at + (256 - byte_sum range)) % 256 in
    let k = hole.at - hole.start in
    let size : length range ≡ hole.length = simp (length-take, length-drop) (omega arith) in
    let place : hole.start + k ≡ hole.at = omega arith in
    let byte : slice_index range k ≡ slice_index bytes hole.at =
    get_or-take hole.length (drop hole.start bytes) k 0 (omega arith) ∙ get_or-drop hole.start bytes k 0 ∙ ap (slice_index bytes) place in
    let changed = sum_by-set (λ x. x) range k value 0 (omega arith) in
    ap byte_sum (part-set bytes hole.start hole.at hole.length value from below)
    ∙ zero_sum (sum range) (slice_index bytes hole.at) (sum (slice_set range k value)) (ap (λ x. sum (slice_set range k value) + x) (sym byte) ∙ changed)

-- the other sums stay in range
rest_in : (bytes : List ℕ) (hole : SumHole) (holes : List SumHole) → AreSums bytes (hole ∷ holes) → AreSums (one_summed bytes hole) holes
rest_in bytes hole holes h =
    let size : length (one_summed bytes hole) ≡ length bytes = length-set bytes hole.at _ in
    AreSums-longer bytes (one_summed bytes hole) holes (omega arith) h.4

-- as many bytes as before
pub length-with_sums : (bytes : List ℕ) (holes : List SumHole) → length (with_sums bytes holes) ≡ length bytes
length-with_sums bytes [] = refl
length-with_sums bytes (hole ∷ holes) = length-with_sums (one_summed bytes hole) holes ∙ length-set bytes hole.at _

-- each byte that is no sum's stays
pub index-with_sums : (bytes : List ℕ) (holes : List SumHole) (place : ℕ) → AllByRecursion (IsOther place) holes
    → slice_index (with_sums bytes holes) place ≡ slice_index bytes place
index-with_sums bytes [] place others = refl
index-with_sums bytes (hole ∷ holes) place others =
    let other : place ≢ hole.at = omega (arith, others.0) in
    index-with_sums (one_summed bytes hole) holes place others.1 ∙ get_or-set_other bytes hole.at place _ 0 other

-- the range of each sum sums to zero
pub summed : (bytes : List ℕ) (holes : List SumHole) → AreSums bytes holes → AreInOrder holes
    → AllByRecursion (λ (hole : SumHole). byte_sum (part (with_sums bytes holes) hole.start hole.length) ≡ 0) holes
summed bytes [] h order = tt
summed bytes (hole ∷ holes) h order =
    let kept : part (with_sums (one_summed bytes hole) holes) hole.start hole.length ≡ part (one_summed bytes hole) hole.start hole.length =
    part_same (with_sums (one_summed bytes hole) holes) (one_summed bytes hole) hole.start hole.length (length-with_sums (one_summed bytes hole) holes)
    (λ place from below.
    index-with_sums (one_summed bytes hole) holes place (each_weaker (λ (later : SumHole). (later.at < hole.start) ⊎ (hole.start + hole.length ≤ later.at))
    (IsOther place) (λ later a. elim a [ inl b ↦ inr (omega arith) | inr b ↦ inl (omega arith) ]) holes order.0)) in
    (ap byte_sum kept ∙ sum-one_summed bytes hole h.0 h.1 h.2, summed (one_summed bytes hole) holes (rest_in bytes hole holes h) order.1)
