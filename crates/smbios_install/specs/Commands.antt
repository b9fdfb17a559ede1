-- The commands of a device's script, and those that install the files of SMBIOS structures.
use Rattle.std.specs.Prelude.{◌≢◌, ℕ, ◌/◌, ◌||◌, Bool, false, List, [], ◌∷◌, length, Option}
use Rattle.std.specs.List.{AllByRecursion, flat_map, position}
use Rattle.std.specs.Option.{option_map_or}
use Rattle.std.specs.Str.{bytes_eq}
use Rattle.cfg_directory.specs.declared.item.Item.{Item}
use Rattle.cfg_directory.specs.Items.{named}
use Rattle.cfg_directory.specs.SmbiosNames.{anchor_name, structures_name}
use Rattle.loader_script.specs.declared.entry.Entry.{Entry}
use Rattle.loader_script.specs.declared.entry.Entry.TheVariants.{Allocate, AddPointer, AddChecksum, WritePointer}
use Rattle.loader_script.specs.LoaderName.{loader_name}
use Rattle.loader_script.specs.Spelling.{entries_of, entry_bytes}
use Rattle.smbios_model.specs.declared.anchor.AnchorForm.{AnchorForm}
use Rattle.smbios_model.specs.declared.anchor.AnchorForm.TheVariants.{Smbios3, Smbios2}
use Rattle.smbios_install.specs.Forms.{pointer_place, pointer_size}

-- the bytes of the item of a name, and none where there is no such item
abbrev pub bytes_of : List Item → List ℕ → List ℕ
bytes_of items name = option_map_or (λ (item : Item). item.bytes) (named items name) []

-- the commands of the items' script, and none where they have no script
abbrev pub commands_in : List Item → List Entry
commands_in items = entries_of (length (bytes_of items loader_name) / 128) (bytes_of items loader_name)

-- The sums of an anchor of a form. Those of an old one are two, of which the second covers the first.
abbrev pub sums : AnchorForm → List Entry
sums Smbios3 = AddChecksum anchor_name 5 0 24 ∷ []
sums Smbios2 = AddChecksum anchor_name 0x15 0x10 15 ∷ AddChecksum anchor_name 4 0 31 ∷ []

-- What is added to a script for an anchor of a form: a place in high memory for the structures, one in the F segment for the anchor, the address
-- of the structures in the anchor, and its sums.
abbrev pub added : AnchorForm → List Entry
added form =
    Allocate structures_name 16 1 ∷ Allocate anchor_name 16 2 ∷ AddPointer anchor_name structures_name (pointer_place form) (pointer_size form) ∷ sums form

-- these commands as bytes
abbrev pub added_bytes : AnchorForm → List ℕ
added_bytes form = flat_map entry_bytes (added form)

-- whether a command takes a place for one of the two files
abbrev pub places_either : Entry → Bool
places_either (Allocate name align zone) = bytes_eq name anchor_name || bytes_eq name structures_name
places_either entry = false

-- the index of the first that does
abbrev pub placing : List Entry → Option ℕ
placing commands = position places_either commands

-- no command writes one of the two files in fw_cfg
abbrev pub LeavesBoth : Entry → Type 0
LeavesBoth (WritePointer dest src dst_offset src_offset size) = (dest ≢ anchor_name) × (dest ≢ structures_name)
LeavesBoth entry = Unit {0}

abbrev pub LeaveBoth : List Entry → Type 0
LeaveBoth commands = AllByRecursion LeavesBoth commands

-- no command names the file of the script
abbrev pub NamesNoScript : Entry → Type 0
NamesNoScript (Allocate name align zone) = name ≢ loader_name
NamesNoScript (AddPointer dest src offset size) = (dest ≢ loader_name) × (src ≢ loader_name)
NamesNoScript (AddChecksum name offset start count) = name ≢ loader_name
NamesNoScript (WritePointer dest src dst_offset src_offset size) = (dest ≢ loader_name) × (src ≢ loader_name)
NamesNoScript entry = Unit {0}

abbrev pub NameNoScript : List Entry → Type 0
NameNoScript commands = AllByRecursion NamesNoScript commands
