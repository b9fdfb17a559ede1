-- Filling every hole of a blob.
use Rattle.std.proofs.Common.{◌≡◌, ℕ, ◌+◌, ◌-◌, ◌<◌, inl, inr, List, length, arith, ap, subst, ◌∙◌}
use Rattle.std.specs.List.{AllByRecursion}
use Rattle.vt_bytes.specs.Numbers.{le}
use Rattle.vt_bytes.specs.Parts.{part}
use Rattle.blob_holes.specs.declared.hole.PointerHole.{PointerHole}
use Rattle.blob_holes.specs.declared.hole.SumHole.{SumHole}
use Rattle.blob_holes.specs.Blob.{BlobState, IsBlob, IsOutsideField}
use Rattle.blob_holes.specs.Filled.{IsSolid, IsFilled, PlacesFit, AreInOrder, with_pointers, with_sums}
use Rattle.vt_bytes.proofs.Each.{each_weaker, each_from, each_turned}
use Rattle.blob_holes.proofs.Put.{part_same}
use Rattle.blob_holes.proofs.Pointers.{number_in, length-with_pointers, index-with_pointers, added}
use Rattle.blob_holes.proofs.Sums.{IsOther, AreSums-longer, length-with_sums, index-with_sums, summed}

-- a field without the byte of any sum keeps its number while the sums are subtracted
number-with_sums : (bytes : List ℕ) (sums : List SumHole) (hole : PointerHole) → AllByRecursion (λ (sum : SumHole). IsOutsideField sum.at hole) sums
    → number_in (with_sums bytes sums) hole ≡ number_in bytes hole
number-with_sums bytes sums hole outside =
    ap le (part_same (with_sums bytes sums) bytes hole.at hole.size (length-with_sums bytes sums) (λ place from below.
    index-with_sums bytes sums place (each_weaker (λ (sum : SumHole). IsOutsideField sum.at hole) (IsOther place)
    (λ sum a. elim a [ inl b ↦ inr (omega arith) | inr b ↦ inl (omega arith) ]) sums outside)))

-- adding the places and then subtracting the sums fills every hole
pub filled : (blob : BlobState) (place_of : List ℕ → ℕ) → IsBlob blob → PlacesFit blob place_of → AreInOrder blob.sums
    → IsFilled blob place_of (with_sums (with_pointers blob.bytes blob.pointers place_of) blob.sums)
filled blob place_of h fit order =
    let with_places = with_pointers blob.bytes blob.pointers place_of in
    let size : length with_places ≡ length blob.bytes = length-with_pointers place_of blob.bytes blob.pointers h.pointers in
    let outside = each_turned (λ (sum : SumHole) (hole : PointerHole). IsOutsideField sum.at hole) blob.sums blob.pointers h.apart in
    record {
      size = length-with_sums with_places blob.sums ∙ size;
      solid = λ place solid. index-with_sums with_places blob.sums place solid.sum_bytes
          ∙ index-with_pointers place_of blob.bytes blob.pointers place h.pointers solid.fields;
      pointers = each_from (λ (hole : PointerHole). AllByRecursion (λ (sum : SumHole). IsOutsideField sum.at hole) blob.sums)
          (λ (hole : PointerHole). number_in with_places hole ≡ number_in blob.bytes hole + place_of hole.target)
          (λ (hole : PointerHole). number_in (with_sums with_places blob.sums) hole ≡ number_in blob.bytes hole + place_of hole.target)
          (λ hole apart was. number-with_sums with_places blob.sums hole apart ∙ was) blob.pointers outside
          (added place_of blob.bytes blob.pointers h.pointers fit);
      sums = summed with_places blob.sums (AreSums-longer blob.bytes with_places blob.sums (omega arith) h.sums) order;
    }

-- a part without holes is the blob's
pub solid_part : (blob : BlobState) (place_of : List ℕ → ℕ) (bytes : List ℕ) (at count : ℕ) → IsFilled blob place_of bytes
    → ((i : ℕ) → i < count → IsSolid blob (at + i)) → part bytes at count ≡ part blob.bytes at count
solid_part blob place_of bytes at count filled solid =
    part_same bytes blob.bytes at count filled.size (λ place from below.
    let in_part : at + (place - at) ≡ place = omega arith in
    filled.solid place (subst (IsSolid blob) in_part (solid (place - at) (omega arith))))
