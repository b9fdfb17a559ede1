-- Whether there is room for files.
use Rattle.std.specs.Prelude.{◌≡◌, ℕ, ◌+◌, ◌<◌, ◌≤◌, List, [], ◌∷◌, ◌++◌, length, Some, IfSome}
use Rattle.std.specs.List.{AllByRecursion}
use Rattle.image_files.specs.declared.file.Placing.{Placing}
use Rattle.zone_alloc.specs.declared.zone.Zone.{Zone}
use Rattle.zone_alloc.specs.declared.zone.Zone.TheVariants.{High, Fseg}
use Rattle.image_files.specs.Files.{ImageFile}
use Rattle.image_files.specs.Places.{MayStand, ArePlaces, ranges_at}

-- Whatever lawful places the files before it were given, a place is free for each file that is placed.
abbrev pub HaveRoom : ℕ → List ImageFile → Type 0
HaveRoom top files =
    (before : List ImageFile) (file : ImageFile) (after : List ImageFile) (placing : Placing) (places : List ℕ)
    → files ≡ before ++ file ∷ after → file.placing ≡ Some placing → ArePlaces top [] before places
    → (place : ℕ) × MayStand top (ranges_at before places) file placing place

-- a small part of each zone: 512 KiB of high memory, 1 KiB of the F segment
abbrev pub small_part : Zone → ℕ
small_part High = 0x80000
small_part Fseg = 0x400

-- a file that is placed is no longer than such a part, with its align, which isn't 0
abbrev pub IsSmall : ImageFile → Type 0
IsSmall file = IfSome file.placing (λ placing. (0 < placing.align) × (length file.blob.bytes + placing.align ≤ small_part placing.zone))

-- no more than 16 files, each of which is small
pub record AreSmall (files : List ImageFile) : Type 0 where
  pub few : length files ≤ 16
  pub each : AllByRecursion IsSmall files
