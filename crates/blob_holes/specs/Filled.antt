-- A blob whose holes are filled.
use Rattle.std.specs.Prelude.{◌≡◌, ℕ, ◌+◌, ◌-◌, ◌%◌, ◌^◌, ◌<◌, ◌≤◌, ◌⊎◌, List, [], ◌∷◌, length, slice_index, slice_set}
use Rattle.std.specs.List.{AllByRecursion}
use Rattle.vt_bytes.specs.Numbers.{le, le_bytes, byte_sum}
use Rattle.vt_bytes.specs.Parts.{part, put_at}
use Rattle.blob_holes.specs.declared.hole.PointerHole.{PointerHole}
use Rattle.blob_holes.specs.declared.hole.SumHole.{SumHole}
use Rattle.blob_holes.specs.Blob.{BlobState, IsOutsideField}

-- A byte that stands in no hole.
pub record IsSolid (blob : BlobState) (place : ℕ) : Type 0 where
  pub fields : AllByRecursion (IsOutsideField place) blob.pointers
  pub sum_bytes : AllByRecursion (λ (sum : SumHole). (place < sum.at) ⊎ (sum.at < place)) blob.sums

-- The bytes are the blob with its holes filled, where each file stands at its place: they are as many; outside the holes
-- they are the blob's; the number in each pointer field is the blob's plus the place of the field's target; and the
-- range of each sum sums to zero.
pub record IsFilled (blob : BlobState) (place_of : List ℕ → ℕ) (bytes : List ℕ) : Type 0 where
  pub size : length bytes ≡ length blob.bytes
  pub solid : (place : ℕ) → IsSolid blob place → slice_index bytes place ≡ slice_index blob.bytes place
  pub pointers : AllByRecursion (λ (hole : PointerHole). le (part bytes hole.at hole.size) ≡ le (part blob.bytes hole.at hole.size) + place_of hole.target)
      blob.pointers
  pub sums : AllByRecursion (λ (hole : SumHole). byte_sum (part bytes hole.start hole.length) ≡ 0) blob.sums

-- each target's place can be added to its field
abbrev pub PlacesFit : BlobState → (List ℕ → ℕ) → Type 0
PlacesFit blob place_of = AllByRecursion (λ (hole : PointerHole). le (part blob.bytes hole.at hole.size) + place_of hole.target < 256 ^ hole.size) blob.pointers

-- the places added to the fields, one after the other
abbrev pub with_pointers : List ℕ → List PointerHole → (List ℕ → ℕ) → List ℕ
with_pointers bytes [] place_of = bytes
with_pointers bytes (hole ∷ holes) place_of =
    with_pointers (put_at bytes hole.at (le_bytes hole.size (le (part bytes hole.at hole.size) + place_of hole.target))) holes place_of

-- the sum of each range subtracted from its byte, one after the other
abbrev pub with_sums : List ℕ → List SumHole → List ℕ
with_sums bytes [] = bytes
with_sums bytes (hole ∷ holes) =
    with_sums (slice_set bytes hole.at ((slice_index bytes hole.at + (256 - byte_sum (part bytes hole.start hole.length))) % 256)) holes

-- no sum's byte lies in the range of a sum before it
abbrev pub AreInOrder : List SumHole → Type 0
AreInOrder [] = Unit {0}
AreInOrder (hole ∷ holes) =
    AllByRecursion (λ (later : SumHole). (later.at < hole.start) ⊎ (hole.start + hole.length ≤ later.at)) holes × AreInOrder holes
