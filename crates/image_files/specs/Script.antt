-- The script that places and links files (QEMU, hw/acpi/bios-linker-loader.c).
use Rattle.std.specs.Prelude.{ℕ, List, [], ◌∷◌, ◌++◌, map}
use Rattle.std.specs.List.{flat_map}
use Rattle.std.specs.Option.{option_map_or}
use Rattle.loader_script.specs.declared.entry.Entry.{Entry}
use Rattle.loader_script.specs.declared.entry.Entry.TheVariants.{Allocate, AddPointer, AddChecksum}
use Rattle.blob_holes.specs.declared.hole.PointerHole.{PointerHole}
use Rattle.blob_holes.specs.declared.hole.SumHole.{SumHole}
use Rattle.image_files.specs.declared.file.Placing.{Placing}
use Rattle.zone_alloc.specs.Zones.{number_of_zone}
use Rattle.image_files.specs.Files.{ImageFile, by_name}

-- the command that places a file, where it is to be placed
abbrev pub place_command : List ℕ → Placing → Entry
place_command name placing = Allocate name placing.align (number_of_zone placing.zone)

abbrev pub allocation : ImageFile → List Entry
allocation file = option_map_or (λ (placing : Placing). place_command file.name placing ∷ []) file.placing []

-- the command that fills a pointer's field, and the one that fills a sum's byte
abbrev pub add_pointer : List ℕ → PointerHole → Entry
add_pointer name hole = AddPointer name hole.target hole.at hole.size

abbrev pub add_checksum : List ℕ → SumHole → Entry
add_checksum name hole = AddChecksum name hole.at hole.start hole.length

-- the commands of each kind, for each of a file's holes
abbrev pub add_pointers : ImageFile → List Entry
add_pointers file = map (add_pointer file.name) file.blob.pointers

abbrev pub add_checksums : ImageFile → List Entry
add_checksums file = map (add_checksum file.name) file.blob.sums

-- The commands that link files: each pointer's field is filled, in the order of the files' names, and then each sum's byte, in the
-- order in which files are placed.
abbrev pub linking : List ImageFile → List Entry
linking files = flat_map add_pointers (by_name files) ++ flat_map add_checksums files

-- The script of files: each is placed, all are linked, and other commands may follow.
abbrev pub script_of : List ImageFile → List Entry → List Entry
script_of files later = flat_map allocation files ++ linking files ++ later
