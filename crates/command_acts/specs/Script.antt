-- The script among the files of fw_cfg.
use Rattle.std.specs.Prelude.{◌≡◌, ℕ, ◌/◌, List, length, Option, Some, None, Result, Ok, Err, IfOk, if◌then◌else◌}
use Rattle.cfg_directory.specs.declared.item.Item.{Item}
use Rattle.cfg_directory.specs.Items.{named}
use Rattle.zone_alloc.specs.declared.alloc.Request.{Request}
use Rattle.cfg_directory.specs.Files.{files_of}
use Rattle.loader_script.specs.LoaderName.{loader_name}
use Rattle.loader_script.specs.declared.entry.Entry.{Entry}
use Rattle.loader_script.specs.Spelling.{entries_of, is_script_length}
use Rattle.command_acts.specs.declared.fault.LoadFault.{LoadFault}
use Rattle.command_acts.specs.declared.fault.LoadFault.TheVariants.{NoScript, ScriptLength}
use Rattle.command_acts.specs.Runs.{request_at}

-- the commands that the bytes of a script are, where it has a script's length
abbrev pub script_of : List ℕ → Result (List Entry) LoadFault
script_of bytes = if is_script_length (length bytes) then Ok (entries_of (length bytes / 128) bytes) else Err ScriptLength

-- the script of the file that has its name, where there is one
abbrev pub script_from : Option Item → Result (List Entry) LoadFault
script_from None = Err NoScript
script_from (Some item) = script_of item.bytes

-- the script of items
abbrev pub script_in : List Item → Result (List Entry) LoadFault
script_in items = script_from (named items loader_name)

-- this request is that of the command at an index of the items' script
abbrev pub IsAsked : List Item → ℕ → Option Request → Type 0
IsAsked items index asked = IfOk (script_in items) (λ script. asked ≡ request_at (files_of items) script index)
