-- In which orders the commands that link files may come.
use Rattle.std.specs.Prelude.{◌≡◌, ◌⊎◌, ℕ, ◌+◌, List, [], ◌∷◌, ◌++◌}
use Rattle.std.specs.List.{flat_map, AllByRecursion}
use Rattle.vt_outside.specs.Placement.{Range, Apart}
use Rattle.loader_script.specs.declared.entry.Entry.{Entry}
use Rattle.loader_script.specs.declared.entry.Entry.TheVariants.{Allocate, AddPointer, AddChecksum, WritePointer, Misnamed, Skipped}
use Rattle.image_files.specs.Files.{ImageFile}
use Rattle.image_files.specs.Script.{add_pointers, add_checksums}

-- one of the commands is this one
abbrev pub IsAmong : List Entry → Entry → Type 0
IsAmong [] command = ⊥
IsAmong (first ∷ commands) command = (first ≡ command) ⊎ IsAmong commands command

-- so many bytes of a file from an offset on
abbrev pub bytes_from : ℕ → ℕ → Range
bytes_from offset count = record { start = offset; end = offset + count }

-- a command writes none of these bytes of the file of a name
abbrev pub Leaves : List ℕ → Range → Entry → Type 0
Leaves name bytes (AddPointer dest src offset size) = dest ≡ name → Apart bytes (bytes_from offset size)
Leaves name bytes (AddChecksum file offset start count) = file ≡ name → Apart bytes (bytes_from offset 1)
Leaves name bytes (Allocate file align zone) = Unit {0}
Leaves name bytes (WritePointer dest src dst_offset src_offset size) = Unit {0}
Leaves name bytes (Misnamed command) = Unit {0}
Leaves name bytes (Skipped command) = Unit {0}

-- what a command has made stays when a later one is carried out: a pointer's number, and the sum of a range
abbrev pub MayPrecede : Entry → Entry → Type 0
MayPrecede (AddPointer dest src offset size) later = Leaves dest (bytes_from offset size) later
MayPrecede (AddChecksum name offset start count) later = Leaves name (bytes_from start count) later
MayPrecede other later = Unit {0}

-- Each command may come before all those behind it: no pointer is added to a number twice, and where a sum is subtracted no command
-- is still to come that writes into its range.
abbrev pub AreInTurn : List Entry → Type 0
AreInTurn [] = Unit {0}
AreInTurn (command ∷ later) = AllByRecursion (MayPrecede command) later × AreInTurn later

-- the commands for all holes of files
abbrev pub patches_of : List ImageFile → List Entry
patches_of files = flat_map (λ (file : ImageFile). add_pointers file ++ add_checksums file) files

-- Commands that link files: each is one for a hole of theirs, none of those is left out, and they are in turn.
pub record AreLinking (files : List ImageFile) (commands : List Entry) : Type 0 where
  pub theirs : AllByRecursion (IsAmong (patches_of files)) commands
  pub all : AllByRecursion (IsAmong commands) (patches_of files)
  pub in_turn : AreInTurn commands
