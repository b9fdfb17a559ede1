-- A file with holes: fields that get the address of another file added, and bytes that make a range sum to zero.
use Rattle.std.specs.Prelude.{ℕ, ◌+◌, ◌-◌, ◌^◌, ◌<◌, ◌≤◌, ◌⊎◌, List, [], ◌∷◌, ◌++◌, length, replicate}
use Rattle.std.specs.Int.{next_multiple_of}
use Rattle.std.specs.List.{AllByRecursion}
use Rattle.vt_layout.specs.Rows.{IsPointerSize}
use Rattle.blob_holes.specs.declared.hole.PointerHole.{PointerHole}
use Rattle.blob_holes.specs.declared.hole.SumHole.{SumHole}

pub record BlobState : Type 0 where
  pub bytes : List ℕ
  pub pointers : List PointerHole
  pub sums : List SumHole

-- the first multiple of a power of two that is not before a file's end
abbrev pub next_place : ℕ → BlobState → ℕ
next_place align blob = next_multiple_of (length blob.bytes) align

-- a file with zeros up to there
abbrev pub aligned : ℕ → BlobState → BlobState
aligned align blob = record blob { bytes = blob.bytes ++ replicate (next_place align blob - length blob.bytes) 0 }

-- a byte lies outside a field
abbrev pub IsOutsideField : ℕ → PointerHole → Type 0
IsOutsideField place hole = (place < hole.at) ⊎ (hole.at + hole.size ≤ place)

-- two pointer fields have no byte in common
abbrev pub AreApart : PointerHole → PointerHole → Type 0
AreApart a b = (a.at + a.size ≤ b.at) ⊎ (b.at + b.size ≤ a.at)

-- A pointer hole that may be added: its field is in the file, apart from the other fields, and without the byte of
-- any sum. It may lie in the range of a sum.
pub record FitsPointer (blob : BlobState) (hole : PointerHole) : Type 0 where
  pub size : IsPointerSize hole.size
  pub within : hole.at + hole.size ≤ length blob.bytes
  pub fields : AllByRecursion (AreApart hole) blob.pointers
  pub sum_bytes : AllByRecursion (λ (sum : SumHole). IsOutsideField sum.at hole) blob.sums

-- A sum hole that may be added: its range is in the file, its byte lies in its range, is no other sum's byte, and lies
-- in no pointer field.
pub record FitsSum (blob : BlobState) (hole : SumHole) : Type 0 where
  pub within : hole.start + hole.length ≤ length blob.bytes
  pub from : hole.start ≤ hole.at
  pub below : hole.at < hole.start + hole.length
  pub sum_bytes : AllByRecursion (λ (sum : SumHole). (hole.at < sum.at) ⊎ (sum.at < hole.at)) blob.sums
  pub fields : AllByRecursion (IsOutsideField hole.at) blob.pointers

-- each pointer hole is in the file, and apart from those behind it in the list
abbrev pub ArePointers : List ℕ → List PointerHole → Type 0
ArePointers bytes [] = Unit {0}
ArePointers bytes (hole ∷ holes) =
    IsPointerSize hole.size × (hole.at + hole.size ≤ length bytes) × AllByRecursion (AreApart hole) holes × ArePointers bytes holes

-- each sum hole's range is in the file and holds its byte, which is that of no sum behind it in the list
abbrev pub AreSums : List ℕ → List SumHole → Type 0
AreSums bytes [] = Unit {0}
AreSums bytes (hole ∷ holes) =
    (hole.start + hole.length ≤ length bytes) × (hole.start ≤ hole.at) × (hole.at < hole.start + hole.length)
    × AllByRecursion (λ (sum : SumHole). (hole.at < sum.at) ⊎ (sum.at < hole.at)) holes × AreSums bytes holes

-- What each blob keeps: fewer than 2 ^ 32 bytes; its holes are in range; pointer fields have no byte in common, nor do
-- they hold the byte of a sum; the bytes of sums differ; and each lies in the range that it sums.
pub record IsBlob (blob : BlobState) : Type 0 where
  pub short : length blob.bytes < 2 ^ 32
  pub pointers : ArePointers blob.bytes blob.pointers
  pub sums : AreSums blob.bytes blob.sums
  pub apart : AllByRecursion (λ (sum : SumHole). AllByRecursion (IsOutsideField sum.at) blob.pointers) blob.sums
