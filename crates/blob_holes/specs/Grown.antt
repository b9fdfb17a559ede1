-- A blob that has grown, and one that can be linked.
use Rattle.std.specs.Prelude.{◌≡◌, ℕ, ◌<◌, ◌≤◌, List, ◌++◌, length}
use Rattle.std.specs.List.{AllByRecursion}
use Rattle.vt_layout.specs.Rows.{places_end}
use Rattle.blob_holes.specs.declared.hole.PointerHole.{PointerHole}
use Rattle.blob_holes.specs.declared.hole.SumHole.{SumHole}
use Rattle.blob_holes.specs.Blob.{BlobState}
use Rattle.blob_holes.specs.Filled.{PlacesFit, AreInOrder}

-- The new blob is the old one with more at its end: its bytes and holes are there still, and each new hole lies behind them.
pub record Extends (old new : BlobState) : Type 0 where
  pub bytes : (more : List ℕ) × (new.bytes ≡ old.bytes ++ more)
  pub pointers : (more : List PointerHole) × (new.pointers ≡ old.pointers ++ more)
      × AllByRecursion (λ (hole : PointerHole). length old.bytes ≤ hole.at) more
  pub sums : (more : List SumHole) × (new.sums ≡ old.sums ++ more)
      × AllByRecursion (λ (hole : SumHole). length old.bytes ≤ hole.at) more

-- A blob that can be linked wherever files stand below 3 GiB: each place fits its field, and no sum's byte lies in the range
-- of a sum before it.
pub record IsLinkable (blob : BlobState) : Type 0 where
  pub fit : (place_of : List ℕ → ℕ) → ((name : List ℕ) → place_of name < places_end) → PlacesFit blob place_of
  pub ordered : AreInOrder blob.sums
