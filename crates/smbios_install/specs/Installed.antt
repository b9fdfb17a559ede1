-- The items of a device whose files of SMBIOS structures a script installs.
use Rattle.std.specs.Prelude.{ℕ, false, List, [], ◌∷◌, ◌++◌, replicate, Option, Some, None, Result, Ok, Err}
use Rattle.std.specs.Option.{option_map_or}
use Rattle.cfg_directory.specs.declared.item.Item.{Item}
use Rattle.cfg_directory.specs.Items.{named, with_bytes_at, with_bytes_behind}
use Rattle.cfg_directory.specs.SmbiosNames.{anchor_name}
use Rattle.loader_script.specs.LoaderName.{loader_name}
use Rattle.smbios_model.specs.declared.anchor.AnchorForm.{AnchorForm}
use Rattle.smbios_install.specs.Forms.{pointer_place, pointer_size}
use Rattle.smbios_install.specs.Commands.{added_bytes}
use Rattle.smbios_install.specs.Faults.{form_in, refusal}
use Rattle.smbios_install.specs.Selectors.{next_select}
use Rattle.smbios_install.specs.declared.fault.InstallFault.{InstallFault}

-- the selector of the item of a name, or 0 where there is none
abbrev pub select_of : List Item → List ℕ → ℕ
select_of items name = option_map_or (λ (item : Item). item.select) (named items name) 0

-- the items with zeros where their anchor, of a form, has the address of the structures
abbrev pub with_blank_pointer : AnchorForm → List Item → List Item
with_blank_pointer form items = with_bytes_at items (select_of items anchor_name) (pointer_place form) (replicate (pointer_size form) 0)

-- the items with bytes behind those of their script, which is added last where there is none and can't be written by a guest
abbrev pub with_script : List Item → List ℕ → Option Item → List Item
with_script items bytes None = items ++ record { name = loader_name; select = next_select items; writable = false; bytes = bytes } ∷ []
with_script items bytes (Some script) = with_bytes_behind items script.select bytes

abbrev pub with_commands : List ℕ → List Item → List Item
with_commands bytes items = with_script items bytes (named items loader_name)

-- the items installed, whose anchor is of a form
unfoldable pub installed_as : AnchorForm → List Item → List Item
installed_as form items = with_commands (added_bytes form) (with_blank_pointer form items)

-- The items installed, by the form of their anchor. Those without an anchor of a form aren't installed, and stay.
abbrev pub installed : List Item → List Item
installed items = option_map_or (λ (form : AnchorForm). installed_as form items) (form_in items) items

-- the items installed, or the first reason against it
abbrev pub unless : List Item → Option InstallFault → Result (List Item) InstallFault
unless items None = Ok (installed items)
unless items (Some fault) = Err fault

abbrev pub install_so : List Item → Result (List Item) InstallFault
install_so items = unless items (refusal items)
