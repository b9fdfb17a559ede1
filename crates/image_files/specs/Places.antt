-- Places that files may be given.
use Rattle.std.specs.Prelude.{◌≡◌, ℕ, ◌+◌, List, [], ◌∷◌, ◌++◌, length, MatchOption}
use Rattle.std.specs.Option.{option_map_or}
use Rattle.vt_outside.specs.Placement.{Range, IsFree}
use Rattle.image_files.specs.declared.file.Placing.{Placing}
use Rattle.image_files.specs.Files.{ImageFile}
use Rattle.zone_alloc.specs.Zones.{zone_range}

-- the range of a file at a place
abbrev pub range_at : ImageFile → ℕ → Range
range_at file place = record { start = place; end = place + length file.blob.bytes }

-- a place that a file may be given, where ranges are handed out
abbrev pub MayStand : ℕ → List Range → ImageFile → Placing → ℕ → Type 0
MayStand top handed file placing place = IsFree (zone_range top placing.zone) handed (length file.blob.bytes) placing.align place

-- Lawful places below a top, one for each file that is placed, in their order: each is a multiple of the file's align and lies in its
-- zone, and the file is apart from the ranges that are handed out and from the files before it.
abbrev pub ArePlaces : ℕ → List Range → List ImageFile → List ℕ → Type 0
ArePlaces top handed [] places = places ≡ []
ArePlaces top handed (file ∷ files) places =
    MatchOption file.placing (ArePlaces top handed files places)
    (λ placing. (place : ℕ) × (others : List ℕ) × (places ≡ place ∷ others) × MayStand top handed file placing place
    × ArePlaces top (handed ++ range_at file place ∷ []) files others)

-- the ranges of files at their places
abbrev pub ranges_at : List ImageFile → List ℕ → List Range
ranges_at [] places = []
ranges_at (file ∷ files) [] = []
ranges_at (file ∷ files) (place ∷ places) =
    option_map_or (λ (placing : Placing). range_at file place ∷ ranges_at files places) file.placing (ranges_at files (place ∷ places))
