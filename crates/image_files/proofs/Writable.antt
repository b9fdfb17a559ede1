-- The commands of a script can be written.
use Rattle.std.proofs.Common.{ℕ, List, [], ◌∷◌, ◌++◌, Option, Some, None}
use Rattle.std.specs.List.{flat_map, AllByRecursion}
use Rattle.std.specs.Option.{option_map_or}
use Rattle.vt_bytes.proofs.Each.{each_append, each_map}
use Rattle.loader_script.specs.declared.entry.Entry.{Entry}
use Rattle.loader_script.specs.declared.entry.Entry.TheVariants.{Allocate}
use Rattle.loader_script.specs.Spelling.{CanBeWritten}
use Rattle.image_files.specs.declared.file.Placing.{Placing}
use Rattle.image_files.specs.Files.{ImageFile, by_name}
use Rattle.zone_alloc.specs.Zones.{number_of_zone}
use Rattle.image_files.specs.Script.{allocation, add_pointer, add_pointers, add_checksum, add_checksums, linking, script_of}
use Rattle.image_files.proofs.InTurn.{each_flat_map}

-- what holds of the commands of each file
each_file : (commands : ImageFile → List Entry) → ((file : ImageFile) → AllByRecursion CanBeWritten (commands file)) → (files : List ImageFile)
    → AllByRecursion (λ file. AllByRecursion CanBeWritten (commands file)) files
each_file commands can [] = tt
each_file commands can (file ∷ files) = (can file, each_file commands can files)

-- the command that places a file
allocation_can : (name : List ℕ) (placing : Option Placing)
    → AllByRecursion CanBeWritten (option_map_or (λ (p : Placing). Allocate name p.align (number_of_zone p.zone) ∷ []) placing [])
allocation_can name None = tt
allocation_can name (Some placing) = (tt, tt)

-- each command that links files
linking_can : (files : List ImageFile) → AllByRecursion CanBeWritten (linking files)
linking_can files =
    each_append CanBeWritten (flat_map add_pointers (by_name files)) (flat_map add_checksums files)
    (each_flat_map CanBeWritten add_pointers (by_name files)
    (each_file add_pointers (λ file. each_map CanBeWritten (add_pointer file.name) (λ hole. tt) file.blob.pointers) (by_name files)))
    (each_flat_map CanBeWritten add_checksums files
    (each_file add_checksums (λ file. each_map CanBeWritten (add_checksum file.name) (λ hole. tt) file.blob.sums) files))

-- each command of a script
pub script_can : (files : List ImageFile) (later : List Entry) → AllByRecursion CanBeWritten later → AllByRecursion CanBeWritten (script_of files later)
script_can files later can =
    each_append CanBeWritten (flat_map allocation files ++ linking files) later
    (each_append CanBeWritten (flat_map allocation files) (linking files)
    (each_flat_map CanBeWritten allocation files (each_file allocation (λ file. allocation_can file.name file.placing) files)) (linking_can files)) can
