-- Files of fw_cfg that a loader script places and links, in the order in which it places them.
use Rattle.std.specs.Prelude.{ℕ, Bool, List, [], ◌∷◌, Option, if◌then◌else◌}
use Rattle.std.specs.Cmp.Lexicographic.{slice_cmp}
use Rattle.std.specs.Ordering.{nat_cmp, is_le}
use Rattle.blob_holes.specs.Blob.{BlobState}
use Rattle.image_files.specs.declared.file.Placing.{Placing}

-- a file: its name, its bytes with their holes, where a place is asked for it, if it is placed at all, and whether a guest may write
-- it in fw_cfg
pub record ImageFile : Type 0 where
  pub name : List ℕ
  pub blob : BlobState
  pub placing : Option Placing
  pub writable : Bool

-- bytes without holes
abbrev pub whole : List ℕ → BlobState
whole bytes = record { bytes = bytes; pointers = []; sums = [] }

-- a name isn't behind another one, by their bytes
abbrev pub is_not_behind : List ℕ → List ℕ → Bool
is_not_behind name other = is_le (slice_cmp nat_cmp name other)

-- a file among others, in front of the first one whose name it isn't behind
abbrev pub among : ImageFile → List ImageFile → List ImageFile
among file [] = file ∷ []
among file (first ∷ others) = if is_not_behind file.name first.name then file ∷ first ∷ others else first ∷ among file others

-- the files in the order of their names
abbrev pub by_name : List ImageFile → List ImageFile
by_name [] = []
by_name (file ∷ files) = among file (by_name files)
