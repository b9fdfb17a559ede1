-- Which files of a device are placed, and where.
use Rattle.std.specs.Prelude.{◌≡◌, ℕ, suc, ◌≤◌, List, [], ◌∷◌, length, map, Option, Some, None, IsSome, vec_capacity}
use Rattle.std.specs.List.{AllByRecursion}
use Rattle.std.specs.Option.{option_map}
use Rattle.loader_script.specs.declared.refusing.FileInfo.{FileInfo}
use Rattle.loader_script.specs.Refusal.{info_of}
use Rattle.loader_script.specs.Order.{IsOrderOf}
use Rattle.command_acts.specs.declared.placed.PlacedFile.{PlacedFile}
use Rattle.command_acts.specs.declared.placements.Placements.{Placements}
use Rattle.command_acts.specs.FilesInMemory.{placed_named}

-- the place of the file of a name, if it is placed, and of each of the files
abbrev pub place_named : List PlacedFile → List ℕ → Option ℕ
place_named placed name = option_map (λ (p : PlacedFile). p.place) (placed_named placed name)

abbrev pub places_in : List PlacedFile → List FileInfo → List (Option ℕ)
places_in placed infos = map (λ (info : FileInfo). place_named placed info.name) infos

-- how many places there are
abbrev pub count_places : List (Option ℕ) → ℕ
count_places [] = 0
count_places (None ∷ places) = count_places places
count_places (Some place ∷ places) = suc (count_places places)

-- The places are those of the placed files, of which there are as many, each of them is one of the files, and there is room for all
-- files; the order is that of the files' names.
pub record ArePlacements (p : Placements) : Type 0 where
  pub places : p.places.items ≡ places_in p.placed.items p.infos.items
  pub count : length p.placed.items ≡ count_places p.places.items
  pub among : AllByRecursion (λ (placed : PlacedFile). IsSome (info_of p.infos.items placed.name)) p.placed.items
  pub room : length p.infos.items ≤ vec_capacity p.placed
  pub order : IsOrderOf p.infos.items p.order
