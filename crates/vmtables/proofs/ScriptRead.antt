-- The script of a machine's image is read from its items.
use Rattle.std.proofs.Common.{◌≡◌, ℕ, ◌*◌, ◌/◌, ◌%◌, ◌≤◌, true, List, [], ◌∷◌, ◌++◌, length, Option, Some, None, option_map, Ok}
use Rattle.std.proofs.Common.{refl, ap, ap₂, sym, subst, ◌∙◌, arith}
use Rattle.std.specs.Bool.{◌==◌}
use Rattle.std.specs.List.{AllByRecursion, flat_map}
use Rattle.std.specs.Str.{bytes_eq}
use Rattle.std.proofs.lemmas.Bool.{cond-true, le-leb}
use Rattle.std.proofs.lemmas.Bool.Decides.{Decides-eqb}
use Rattle.std.proofs.lemmas.Option.{same_Some, none-some}
use Rattle.vt_bytes.proofs.Each.{each_append, each_map}
use Rattle.cfg_directory.specs.declared.item.Item.{Item}
use Rattle.cfg_directory.specs.Items.{total_size, named}
use Rattle.image_files.specs.Files.{ImageFile, by_name}
use Rattle.loader_script.specs.LoaderName.{loader_name}
use Rattle.image_files.specs.Items.{image_limit}
use Rattle.image_files.specs.Script.{allocation, add_pointer, add_pointers, add_checksum, add_checksums, linking, script_of}
use Rattle.image_files.specs.declared.file.Placing.{Placing}
use Rattle.image_files.proofs.InTurn.{each_flat_map}
use Rattle.loader_script.specs.declared.entry.Entry.{Entry}
use Rattle.vt_outside.specs.File.{File}
use Rattle.loader_script.specs.Spelling.{Fits, CanBeWritten, entries_of, entry_bytes, is_script_length}
use Rattle.loader_script.proofs.Named.{find-map}
use Rattle.loader_script.proofs.Scripts.{length-script, script-again}
use Rattle.machine_desc.specs.declared.machine.Machine.{Machine}
use Rattle.vm_image.specs.Image.{telling, image_files, image_script, image_items}
use Rattle.vm_image.specs.Built.{IsBuilt}
use Rattle.command_acts.specs.Script.{script_in, script_from}
use Rattle.command_acts.specs.Script.{script_of as script_read_of}
use Rattle.firmware_load.proofs.RoomOfLoads.{named_small}

-- the commands that place and link files are read again
placing_again : (file : ImageFile) (placing : Option Placing)
    → file.placing ≡ placing → AllByRecursion CanBeWritten (allocation file)
placing_again file None is = rw is tt
placing_again file (Some placing) is = rw is (tt, tt)

each_file : (commands : ImageFile → List Entry) → ((file : ImageFile) → AllByRecursion CanBeWritten (commands file)) → (files : List ImageFile)
    → AllByRecursion (λ file. AllByRecursion CanBeWritten (commands file)) files
each_file commands again [] = tt
each_file commands again (file ∷ files) = (again file, each_file commands again files)

script_again : (files : List ImageFile) (later : List Entry) → AllByRecursion CanBeWritten later → AllByRecursion CanBeWritten (script_of files later)
script_again files later again =
    each_append CanBeWritten (flat_map allocation files ++ linking files) later
    (each_append CanBeWritten (flat_map allocation files) (linking files)
    (each_flat_map CanBeWritten allocation files (each_file allocation (λ file. placing_again file file.placing refl) files))
    (each_append CanBeWritten (flat_map add_pointers (by_name files)) (flat_map add_checksums files)
    (each_flat_map CanBeWritten add_pointers (by_name files)
    (each_file add_pointers (λ file. each_map CanBeWritten (add_pointer file.name) (λ hole. tt) file.blob.pointers) (by_name files)))
    (each_flat_map CanBeWritten add_checksums files
    (each_file add_checksums (λ file. each_map CanBeWritten (add_checksum file.name) (λ hole. tt) file.blob.sums) files)))) again

-- and so is the one that tells where the id of a generation is
telling_again : (generation : Option ℕ) → AllByRecursion CanBeWritten (telling generation)
telling_again None = tt
telling_again (Some id) = (tt, tt)

-- the item of a name, of the file of that name
item_found : (found : Option Item) (file : File)
    → option_map (λ (item : Item). record { name = item.name; bytes = item.bytes; writable = item.writable }) found ≡ Some file
    → (item : Item) × (found ≡ Some item) × (item.bytes ≡ file.bytes)
item_found None file is = absurd (none-some file is)
item_found (Some item) file is = (item, refl, ap (λ (f : File). f.bytes) (same_Some _ file is))

-- a test of equal numbers passes
eqb_same : (a b : ℕ) → a ≡ b → (a == b) ≡ true
eqb_same a b = (Decides-eqb a b).1

-- bytes that spell a script are read as it
spelled_read : (script : List Entry) (bytes : List ℕ) → bytes ≡ flat_map entry_bytes script → AllByRecursion Fits script
    → AllByRecursion CanBeWritten script → length bytes ≤ 409600 → script_read_of bytes ≡ Ok script
spelled_read script bytes is fits again few =
    let long : length bytes ≡ 128 * length script = ap length is ∙ length-script script fits in
    let count : length bytes / 128 ≡ length script = omega (arith, long) in
    let whole : (length bytes % 128 == 0) ≡ true = eqb_same (length bytes % 128) 0 (omega (arith, long)) in
    let lawful : is_script_length (length bytes) ≡ true = rw whole (le-leb (length bytes) 1048576 (omega (arith, few))) in
    cond-true _ _ _ lawful
    ∙ ap Ok (ap₂ entries_of count is ∙ script-again script fits again)

pub script_read : (m : Machine) (items : List Item) (script : List Entry) → IsBuilt m items script
    → total_size (image_items m) ≤ image_limit → script_in (image_items m) ≡ Ok (image_script m)
script_read m items script built few =
    let spelled = rw built.items_are at built.spelled in
    let found = item_found (named (image_items m) loader_name) _ (sym (find-map (λ (item : Item). record {
      name = item.name;
      bytes = item.bytes;
      writable = item.writable;
    })
    (λ (file : File). bytes_eq file.name loader_name) (image_items m)) ∙ spelled) in
    let again : AllByRecursion CanBeWritten script = subst (AllByRecursion CanBeWritten) (sym built.script_is)
    (script_again (image_files m) (telling m.generation) (telling_again m.generation)) in
    ap script_from found.1
    ∙ spelled_read script found.0.bytes found.2 built.fits again (omega (arith, named_small (image_items m) loader_name found.0 found.1, few))
    ∙ ap Ok built.script_is
