-- The holes of a layout's rows, and a file with rows at its end.
use Rattle.std.specs.Prelude.{ℕ, ◌+◌, ◌<◌, ◌≤◌, List, [], ◌∷◌, ◌++◌, length}
use Rattle.std.specs.List.{AllByRecursion}
use Rattle.vt_layout.specs.declared.row.Row.{Row}
use Rattle.vt_layout.specs.declared.row.Row.TheVariants.{Pointer, Sum}
use Rattle.vt_layout.specs.Rows.{width_of, size, spelled, IsRow}
use Rattle.blob_holes.specs.declared.hole.PointerHole.{PointerHole}
use Rattle.blob_holes.specs.declared.hole.SumHole.{SumHole}
use Rattle.blob_holes.specs.Blob.{BlobState}

-- the hole of a pointer that stands at a place; no other row has one
abbrev pub pointer_of : ℕ → Row → List PointerHole
pointer_of at (Pointer width target offset) = record { at = at; size = width; target = target } ∷ []
pointer_of at row = []

-- the hole of a sum that stands at a place, in a layout that begins at start; no other row has one
abbrev pub sum_of : ℕ → ℕ → Row → List SumHole
sum_of start at (Sum covers) = record { at = at; start = start; length = covers } ∷ []
sum_of start at row = []

-- the holes of rows, one row after the other from a place on
abbrev pub pointer_holes : ℕ → List Row → List PointerHole
pointer_holes at [] = []
pointer_holes at (row ∷ rows) = pointer_of at row ++ pointer_holes (at + width_of row) rows

abbrev pub sum_holes : ℕ → ℕ → List Row → List SumHole
sum_holes start at [] = []
sum_holes start at (row ∷ rows) = sum_of start at row ++ sum_holes start (at + width_of row) rows

-- a file with a layout's rows at its end, whose sums are no holes yet
abbrev pub unsummed : BlobState → List Row → BlobState
unsummed blob rows = record blob {
  bytes = blob.bytes ++ spelled rows;
  pointers = blob.pointers ++ pointer_holes (length blob.bytes) rows;
}

-- a file with a layout's rows at its end
abbrev pub with_rows : BlobState → List Row → BlobState
with_rows blob rows = record {
  bytes = blob.bytes ++ spelled rows;
  pointers = blob.pointers ++ pointer_holes (length blob.bytes) rows;
  sums = blob.sums ++ sum_holes (length blob.bytes) (length blob.bytes) rows;
}

-- In a layout of so many bytes, a sum at an offset lies in the range that it sums, and behind the ranges of the sums before it,
-- which end where the layout is free.
abbrev pub IsSum : ℕ → ℕ → ℕ → Row → Type 0
IsSum total free offset (Sum covers) = (free ≤ offset) × (offset < covers) × (covers ≤ total)
IsSum total free offset row = Unit {0}

-- where the layout is free behind one more row
abbrev pub free_behind : ℕ → Row → ℕ
free_behind free (Sum covers) = covers
free_behind free row = free

-- the same of rows from an offset on
abbrev pub SumsFit : ℕ → ℕ → ℕ → List Row → Type 0
SumsFit total free offset [] = Unit {0}
SumsFit total free offset (row ∷ rows) =
    IsSum total free offset row × SumsFit total (free_behind free row) (offset + width_of row) rows

-- no row is a sum
abbrev pub IsUnsummed : Row → Type 0
IsUnsummed (Sum covers) = ⊥
IsUnsummed row = Unit {0}

-- the rows of a layout that can be appended: each value fits its row, and each sum its layout
pub record AreRows (rows : List Row) : Type 0 where
  pub each : AllByRecursion IsRow rows
  pub sums : SumsFit (size rows) 0 0 rows
