-- Why the files of SMBIOS structures aren't installed: the first reason that applies, in the order of the reasons.
use Rattle.std.specs.Prelude.{◌≡◌, ℕ, suc, ◌+◌, Bool, not, ◌&&◌, ◌==◌, List, [], ◌∷◌, length, take, drop, Option, Some, None, is_some, unwrap_or, Result, Err}
use Rattle.std.specs.Prelude.{nat_lt, ◌⊎◌, if◌then◌else◌}
use Rattle.std.specs.Option.{option_map_or}
use Rattle.cfg_directory.specs.declared.item.Item.{Item}
use Rattle.cfg_directory.specs.Items.{named, total_size, file_limit, bytes_limit}
use Rattle.cfg_directory.specs.SmbiosNames.{anchor_name, structures_name}
use Rattle.loader_script.specs.LoaderName.{loader_name}
use Rattle.loader_script.specs.Spelling.{is_script_length}
use Rattle.smbios_model.specs.declared.anchor.AnchorForm.{AnchorForm}
use Rattle.smbios_install.specs.Forms.{form_of}
use Rattle.smbios_install.specs.Commands.{added_bytes, bytes_of, commands_in, placing}
use Rattle.smbios_install.specs.declared.fault.InstallFault.{InstallFault}
use Rattle.smbios_install.specs.declared.fault.InstallFault.TheVariants.{NoAnchor, NoTables, EmptyTables, BadAnchor, ScriptLength, AlreadyPlaced}
use Rattle.smbios_install.specs.declared.fault.InstallFault.TheVariants.{ScriptFull, TooMany, TooLarge, OutOfMemory}

abbrev pub is_there : List Item → List ℕ → Bool
is_there items name = is_some (named items name)

-- the form of the items' anchor
abbrev pub form_in : List Item → Option AnchorForm
form_in items = form_of (bytes_of items anchor_name)

-- how many bytes are added to the script
abbrev pub added_size : List Item → ℕ
added_size items = option_map_or (λ (form : AnchorForm). length (added_bytes form)) (form_in items) 0

-- The reasons in order, and whether each applies.
abbrev pub reasons : List Item → List (InstallFault × Bool)
reasons items =
    let script = bytes_of items loader_name in
    let structures = bytes_of items structures_name in
    (NoAnchor, not (is_there items anchor_name)) ∷ (NoTables, not (is_there items structures_name)) ∷ (EmptyTables, length structures == 0)
    ∷ (BadAnchor, not (is_some (form_in items))) ∷ (ScriptLength, not (is_script_length (length script)))
    ∷ (AlreadyPlaced (unwrap_or (placing (commands_in items)) 0), is_some (placing (commands_in items)))
    ∷ (ScriptFull, nat_lt 1048576 (length script + added_size items))
    ∷ (TooMany, not (is_there items loader_name) && nat_lt file_limit (suc (length items)))
    ∷ (TooLarge, nat_lt bytes_limit (total_size items + added_size items)) ∷ []

-- the first reason that applies
abbrev pub first_reason : List (InstallFault × Bool) → Option InstallFault
first_reason [] = None
first_reason (reason ∷ reasons) = if reason.1 then Some reason.0 else first_reason reasons

-- why the items' files aren't installed, or nothing
unfoldable pub refusal : List Item → Option InstallFault
refusal items = first_reason (reasons items)

-- the same of the reasons that the two files give, of those that the script gives, and of the limits
unfoldable pub files_refusal : List Item → Option InstallFault
files_refusal items = first_reason (take 4 (reasons items))

unfoldable pub script_refusal : List Item → Option InstallFault
script_refusal items = first_reason (take 2 (drop 4 (reasons items)))

unfoldable pub limits_refusal : List Item → Option InstallFault
limits_refusal items = first_reason (drop 6 (reasons items))

-- a result is what was meant, unless memory ran out
abbrev pub OrNoMemory : Result (List Item) InstallFault → Result (List Item) InstallFault → Type 0
OrNoMemory result meant = (result ≡ meant) ⊎ (result ≡ Err OutOfMemory)
