-- The items of fw_cfg that files are, with the file of the script that loads them.
use Rattle.std.specs.Prelude.{◌≡◌, ℕ, ◌+◌, false, List, [], ◌∷◌, length, sum_by, None}
use Rattle.std.specs.List.{flat_map}
use Rattle.loader_script.specs.declared.entry.Entry.{Entry}
use Rattle.loader_script.specs.Spelling.{entry_bytes}
use Rattle.loader_script.specs.LoaderName.{loader_name}
use Rattle.cfg_directory.specs.declared.item.Item.{Item}
use Rattle.image_files.specs.Files.{ImageFile, whole, by_name}
use Rattle.image_files.specs.Script.{allocation, add_pointers, add_checksums, script_of}

-- the items of files, whose selectors count up from a number
abbrev pub items_from : ℕ → List ImageFile → List Item
items_from select [] = []
items_from select (file ∷ files) =
    record { name = file.name; select = select; writable = file.writable; bytes = file.blob.bytes } ∷ items_from (select + 1) files

-- The file of a script, which is not placed.
abbrev pub loader_file : List Entry → ImageFile
loader_file script = record { name = loader_name; blob = whole (flat_map entry_bytes script); placing = None; writable = false }

-- files in the order of their names, with that of their script among them
abbrev pub AreSorted : List ImageFile → List Entry → List ImageFile → Type 0
AreSorted files later sorted = sorted ≡ by_name (loader_file (script_of files later) ∷ files)

-- the items of files and of their script, in the order of their names, with selectors from 0x20 on
abbrev pub items_of : List ImageFile → List Entry → List Item
items_of files later = items_from 0x20 (by_name (loader_file (script_of files later) ∷ files))

-- the bytes of files, counted
abbrev pub total_bytes : List ImageFile → ℕ
total_bytes files = sum_by (λ (file : ImageFile). length file.blob.bytes) files

-- how many bytes commands are written as
abbrev pub size_of_commands : List Entry → ℕ
size_of_commands commands = length (flat_map entry_bytes commands)

-- how many bytes a file has, with the commands that place it and fill its holes
abbrev pub size_with_commands : ImageFile → ℕ
size_with_commands file =
    length file.blob.bytes + size_of_commands (allocation file) + size_of_commands (add_pointers file) + size_of_commands (add_checksums file)

-- how many bytes the files of an image may have in all
abbrev pub image_limit : ℕ
image_limit = 409600
