-- Pointer fields, and the numbers in them.
use Rattle.std.proofs.Common.{◌≡◌, ℕ, ◌+◌, ◌^◌, ◌<◌, ◌≤◌, ◌⊎◌, inl, inr, List, [], ◌∷◌, ◌++◌, length, slice_index, arith, refl, ap, subst, sym, ◌∙◌}
use Rattle.std.specs.List.{AllByRecursion}
use Rattle.vt_bytes.proofs.PutAt.{length-put_at, index-beside_put}
use Rattle.vt_bytes.specs.Numbers.{le, le_bytes}
use Rattle.vt_bytes.proofs.Numbers.{length-le_bytes, le-le_bytes}
use Rattle.vt_bytes.specs.Parts.{part, put_at}
use Rattle.blob_holes.specs.declared.hole.PointerHole.{PointerHole}
use Rattle.vt_layout.specs.Rows.{IsPointerSize}
use Rattle.blob_holes.specs.Blob.{IsOutsideField, AreApart, ArePointers}
use Rattle.blob_holes.specs.Filled.{with_pointers}
use Rattle.vt_bytes.proofs.Each.{each_weaker, each_from, each_push}
use Rattle.blob_holes.proofs.Put.{part-put_at, part_same}

-- fields stay in a file that is no shorter
pub ArePointers-longer : (bytes more : List ℕ) (holes : List PointerHole) → length bytes ≤ length more → ArePointers bytes holes → ArePointers more holes
ArePointers-longer bytes more [] l h = tt
ArePointers-longer bytes more (hole ∷ holes) l h = (h.0, omega arith, h.2, ArePointers-longer bytes more holes l h.3)

-- one more field, apart from the others
pub ArePointers-push : (bytes : List ℕ) (holes : List PointerHole) (hole : PointerHole) → ArePointers bytes holes → IsPointerSize hole.size
    → hole.at + hole.size ≤ length bytes → AllByRecursion (AreApart hole) holes → ArePointers bytes (holes ++ hole ∷ [])
ArePointers-push bytes [] hole h size within apart = (size, within, tt, tt)
ArePointers-push bytes (first ∷ holes) hole h size within apart =
    let turned : AreApart first hole = elim apart.0 [ inl a ↦ inr a | inr a ↦ inl a ] in
    (h.0, h.1, each_push (AreApart first) holes hole h.2 turned, ArePointers-push bytes holes hole h.3 size within apart.1)

-- the field with a number put into it
abbrev pub put_number : List ℕ → PointerHole → ℕ → List ℕ
put_number bytes hole number = put_at bytes hole.at (le_bytes hole.size number)

-- the number in a field
abbrev pub number_in : List ℕ → PointerHole → ℕ
number_in bytes hole = le (part bytes hole.at hole.size)

-- a number in its field leaves as many bytes
pub length-put_number : (bytes : List ℕ) (hole : PointerHole) (number : ℕ) → hole.at + hole.size ≤ length bytes
    → length (put_number bytes hole number) ≡ length bytes
length-put_number bytes hole number within =
    let size = length-le_bytes hole.size number in
    length-put_at bytes hole.at (le_bytes hole.size number) (omega arith)

-- and each byte outside the field
pub index-put_number : (bytes : List ℕ) (hole : PointerHole) (number place : ℕ) → hole.at + hole.size ≤ length bytes → IsOutsideField place hole
    → slice_index (put_number bytes hole number) place ≡ slice_index bytes place
index-put_number bytes hole number place within outside =
    let size = length-le_bytes hole.size number in
    let past : (place < hole.at) ⊎ (hole.at + length (le_bytes hole.size number) ≤ place) = elim outside [ inl a ↦ inl a | inr a ↦ inr (omega arith) ] in
    index-beside_put bytes hole.at (le_bytes hole.size number) place (omega arith) past

-- a number that fits is then in its field
pub number-put_number : (bytes : List ℕ) (hole : PointerHole) (number : ℕ) → hole.at + hole.size ≤ length bytes → number < 256 ^ hole.size
    → number_in (put_number bytes hole number) hole ≡ number
number-put_number bytes hole number within fits =
    let size = length-le_bytes hole.size number in
    ap le (part-put_at bytes hole.at (le_bytes hole.size number) hole.size (omega arith) (sym size)) ∙ le-le_bytes hole.size number fits

-- a field that is apart keeps its number
apart-put_number : (bytes : List ℕ) (hole other : PointerHole) (number : ℕ) → hole.at + hole.size ≤ length bytes → AreApart hole other
    → number_in (put_number bytes hole number) other ≡ number_in bytes other
apart-put_number bytes hole other number within apart =
    ap le (part_same (put_number bytes hole number) bytes other.at other.size (length-put_number bytes hole number within) (λ place from below.
    let outside : IsOutsideField place hole = elim apart [ inl a ↦ inr (omega arith) | inr a ↦ inl (omega arith) ] in
    index-put_number bytes hole number place within outside))

module _ (place_of : List ℕ → ℕ) where
  -- each target's place can be added to its field
  abbrev pub Fit : List ℕ → List PointerHole → Type 0
  Fit bytes holes = AllByRecursion (λ (hole : PointerHole). number_in bytes hole + place_of hole.target < 256 ^ hole.size) holes

  -- each field has its target's place added
  abbrev pub AreAdded : List ℕ → List ℕ → List PointerHole → Type 0
  AreAdded bytes filled holes = AllByRecursion (λ (hole : PointerHole). number_in filled hole ≡ number_in bytes hole + place_of hole.target) holes

  -- the bytes with the first field filled
  abbrev pub one_filled : List ℕ → PointerHole → List ℕ
  one_filled bytes hole = put_number bytes hole (number_in bytes hole + place_of hole.target)

  -- the other fields stay in range
  pub rest_in : (bytes : List ℕ) (hole : PointerHole) (holes : List PointerHole) → ArePointers bytes (hole ∷ holes) → ArePointers (one_filled bytes hole) holes
  rest_in bytes hole holes h =
      let size = length-put_number bytes hole (number_in bytes hole + place_of hole.target) h.1 in
      ArePointers-longer bytes (one_filled bytes hole) holes (omega arith) h.3

  -- as many bytes as before
  pub length-with_pointers : (bytes : List ℕ) (holes : List PointerHole) → ArePointers bytes holes → length (with_pointers bytes holes place_of) ≡ length bytes
  length-with_pointers bytes [] h = refl
  length-with_pointers bytes (hole ∷ holes) h =
      length-with_pointers (one_filled bytes hole) holes (rest_in bytes hole holes h) ∙ length-put_number bytes hole _ h.1

  -- each byte outside the fields stays
  pub index-with_pointers : (bytes : List ℕ) (holes : List PointerHole) (place : ℕ) → ArePointers bytes holes → AllByRecursion (IsOutsideField place) holes
      → slice_index (with_pointers bytes holes place_of) place ≡ slice_index bytes place
  index-with_pointers bytes [] place h outside = refl
  index-with_pointers bytes (hole ∷ holes) place h outside =
      index-with_pointers (one_filled bytes hole) holes place (rest_in bytes hole holes h) outside.1 ∙ index-put_number bytes hole _ place h.1 outside.0

  -- a field that is apart from them keeps its number
  apart-with_pointers : (bytes : List ℕ) (holes : List PointerHole) (other : PointerHole) → ArePointers bytes holes → AllByRecursion (AreApart other) holes
      → number_in (with_pointers bytes holes place_of) other ≡ number_in bytes other
  apart-with_pointers bytes holes other h apart =
      ap le (part_same (with_pointers bytes holes place_of) bytes other.at other.size (length-with_pointers bytes holes h) (λ place from below.
      index-with_pointers bytes holes place h (each_weaker (AreApart other) (IsOutsideField place)
      (λ hole a. elim a [ inl b ↦ inl (omega arith) | inr b ↦ inr (omega arith) ]) holes apart)))

  -- each place still fits once the first field is filled
  pub rest_fit : (bytes : List ℕ) (hole : PointerHole) (holes : List PointerHole) → ArePointers bytes (hole ∷ holes) → Fit bytes holes
      → Fit (one_filled bytes hole) holes
  rest_fit bytes hole holes h fit =
      each_from (AreApart hole) (λ (other : PointerHole). number_in bytes other + place_of other.target < 256 ^ other.size)
      (λ (other : PointerHole). number_in (one_filled bytes hole) other + place_of other.target < 256 ^ other.size)
      (λ other apart fits. subst (λ number. number + place_of other.target < 256 ^ other.size) (sym (apart-put_number bytes hole other _ h.1 apart)) fits)
      holes h.2 fit

  -- each field gets its target's place added
  pub added : (bytes : List ℕ) (holes : List PointerHole) → ArePointers bytes holes → Fit bytes holes
      → AreAdded bytes (with_pointers bytes holes place_of) holes
  added bytes [] h fit = tt
  added bytes (hole ∷ holes) h fit =
      let inside = rest_in bytes hole holes h in
      let filled = with_pointers (one_filled bytes hole) holes place_of in
      let first : number_in filled hole ≡ number_in bytes hole + place_of hole.target =
      apart-with_pointers (one_filled bytes hole) holes hole inside h.2 ∙ number-put_number bytes hole _ h.1 fit.0 in
      let rest = each_from (AreApart hole) (λ (other : PointerHole). number_in filled other ≡ number_in (one_filled bytes hole) other + place_of other.target)
      (λ (other : PointerHole). number_in filled other ≡ number_in bytes other + place_of other.target)
      (λ other apart was. was ∙ ap (λ number. number + place_of other.target) (apart-put_number bytes hole other _ h.1 apart)) holes h.2
      (added (one_filled bytes hole) holes inside (rest_fit bytes hole holes h fit.1)) in
      (first, rest)
