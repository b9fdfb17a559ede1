-- What holds of the parts of the frames.
use Rattle.std.specs.Prelude.{◌≡◌, ℕ, List, length, Option, Some, None, ⊤}
use Rattle.std.specs.List.{AllByRecursion}
use Rattle.raw_frames.specs.declared.places.Start.{Start}
use Rattle.raw_frames.specs.declared.places.Places.{Places}
use Rattle.raw_frames.specs.declared.places.Claim.{Claim}

-- A frame isn't filled, or has 4,096 bytes.
abbrev pub IsFrame : Option (List ℕ) → Type 0
IsFrame None = ⊤
IsFrame (Some bytes) = length bytes ≡ 4096

-- There are 8,448 frames.
pub record AreFrames (frames : List (Option (List ℕ))) : Type 0 where
  pub count : length frames ≡ 8448
  pub each : AllByRecursion IsFrame frames

-- Pointer, places and claim are of one block of 8,448 frames, which goes back to that allocator.
pub record IsBlock {A : Type 0} (start : Start) (places : Places) (claim : Claim A) (alloc : A) : Type 0 where
  pub at : places.at ≡ start.first
  pub frames : AreFrames places.slots
  pub claim_at : claim.at ≡ start.first
  pub claim_count : claim.count ≡ 8448
  pub claim_alloc : claim.alloc ≡ alloc
