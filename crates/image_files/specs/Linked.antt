-- Files that stand in memory with their holes filled.
use Rattle.std.specs.Prelude.{◌≡◌, ℕ, List, [], ◌∷◌, Some, MatchOption}
use Rattle.std.specs.List.{AllByRecursion}
use Rattle.vt_outside.specs.File.{File}
use Rattle.loader_script.specs.Run.{Placed, file_of}
use Rattle.blob_holes.specs.Filled.{IsFilled}
use Rattle.image_files.specs.Files.{ImageFile}

-- a file as it stands at a place, where the files of names stand at these places
pub record IsLinked (place_of : List ℕ → ℕ) (file : ImageFile) (place : ℕ) (p : Placed) : Type 0 where
  pub name : p.name ≡ file.name
  pub place_is : p.place ≡ place
  pub filled : IsFilled file.blob place_of p.bytes

-- the files that are placed stand at their places, in their order
abbrev pub AreLinked : (List ℕ → ℕ) → List ImageFile → List ℕ → List Placed → Type 0
AreLinked place_of [] places placed = (places ≡ []) × (placed ≡ [])
AreLinked place_of (file ∷ files) places placed =
    MatchOption file.placing (AreLinked place_of files places placed)
    (λ placing. (place : ℕ) × (others : List ℕ) × (p : Placed) × (rest : List Placed) × (places ≡ place ∷ others) × (placed ≡ p ∷ rest)
    × IsLinked place_of file place p × AreLinked place_of files others rest)

-- a run begins with these files among others
abbrev pub BeginsWith : List File → List ImageFile → Type 0
BeginsWith loaded files =
    AllByRecursion (λ (file : ImageFile). file_of loaded file.name
    ≡ Some (record { name = file.name; bytes = file.blob.bytes; writable = file.writable })) files
