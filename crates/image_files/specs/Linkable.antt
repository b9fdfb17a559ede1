-- Files that a script can place and link, wherever they come to stand.
use Rattle.std.specs.Prelude.{◌≡◌, ℕ, ◌^◌, ◌⊎◌, ◌<◌, true, false, List, [], ◌∷◌, IsSome, IfSome, MatchOption, length}
use Rattle.std.specs.Int.{is_power_of_two}
use Rattle.std.specs.List.{AllByRecursion}
use Rattle.std.specs.Str.{bytes_eq}
use Rattle.vt_outside.specs.Name.{IsName}
use Rattle.blob_holes.specs.declared.hole.PointerHole.{PointerHole}
use Rattle.blob_holes.specs.Blob.{BlobState, IsBlob}
use Rattle.blob_holes.specs.Grown.{IsLinkable}
use Rattle.image_files.specs.declared.file.Placing.{Placing}
use Rattle.image_files.specs.Files.{ImageFile}

-- no file has the name
abbrev pub HasNoName : List ImageFile → List ℕ → Type 0
HasNoName files name = AllByRecursion (λ (file : ImageFile). bytes_eq file.name name ≡ false) files

-- no two files have one name
abbrev pub AreDistinct : List ImageFile → Type 0
AreDistinct [] = Unit {0}
AreDistinct (file ∷ files) = HasNoName files file.name × AreDistinct files

-- one of the files that are placed has the name
abbrev pub IsPlacedName : List ImageFile → List ℕ → Type 0
IsPlacedName [] name = ⊥
IsPlacedName (file ∷ files) name = ((file.name ≡ name) × IsSome file.placing) ⊎ IsPlacedName files name

abbrev pub HasNoHoles : BlobState → Type 0
HasNoHoles blob = (blob.pointers ≡ []) × (blob.sums ≡ [])

-- a file that isn't empty, for which a place at a multiple of a power of two is asked
abbrev pub CanBePlaced : ImageFile → Placing → Type 0
CanBePlaced file placing = (0 < length file.blob.bytes) × (is_power_of_two placing.align ≡ true)

-- A file whose holes are lawful, and can be filled wherever files stand below 3 GiB. It can be placed, or it has no holes.
pub record IsLinkableFile (file : ImageFile) : Type 0 where
  pub blob : IsBlob file.blob
  pub linkable : IsLinkable file.blob
  pub placed : MatchOption file.placing (HasNoHoles file.blob) (CanBePlaced file)

-- each pointer of a file leads to one of the files that are placed
abbrev pub LeadsAmong : List ImageFile → ImageFile → Type 0
LeadsAmong files file = AllByRecursion (λ (hole : PointerHole). IsPlacedName files hole.target) file.blob.pointers

-- Files that a script can place and link: their names differ, each is so, and no pointer leads elsewhere.
pub record AreLinkable (files : List ImageFile) : Type 0 where
  pub distinct : AreDistinct files
  pub each : AllByRecursion IsLinkableFile files
  pub leads : AllByRecursion (LeadsAmong files) files

-- a file has a name, and an align of 32 bits, as each file of the program has
pub record HasFittingPlace (file : ImageFile) : Type 0 where
  pub name : IsName file.name
  pub align : IfSome file.placing (λ (placing : Placing). placing.align < 2 ^ 32)
