-- What `gen` does.
use Rattle.std.specs.Prelude.{ℕ, List, [], ◌∷◌, ◌++◌, length, codes, decimal, Ok, Err, ◌≡◌}
use Rattle.cfg_directory.specs.Items.{total_size}
use Rattle.generated_machine.specs.Generated.{generated}
use Rattle.load_states.specs.LoadState.{memory_of}
use Rattle.machine_desc.specs.declared.machine.Machine.{Machine}
use Rattle.memory_dump.specs.Rows.{rows_of}
use Rattle.vm_image.specs.Image.{image_items, image_script}
use Rattle.vt_bytes.specs.Memory.{Memory}
use Rattle.vt_words.specs.declared.setting.Setting.{Setting}
use Rattle.zone_alloc.specs.declared.policy.Policy.TheVariants.{Low}
use Rattle.vmtables.specs.Boot.{FailsToBoot, IsMachineBooted}
use Rattle.vmtables.specs.Calls.{Answering, Made, Seen}
use Rattle.vmtables.specs.declared.fault.Fault.{Fault}

-- how a generated machine is booted: with the lowest places, without other events, over memory of zeros
abbrev pub plain : Setting
plain = record { fill = 0; policy = Low; seed = 0 }

-- a line of the summary
abbrev pub count_line : List ℕ → ℕ → List ℕ
count_line name count = name ++ decimal count ++ 10 ∷ []

-- The summary: how many processors a machine has, how many files and bytes of files, how many commands their script has, and how many rows the
-- dump of its memory.
abbrev pub summary_of : ℕ → ℕ → ℕ → ℕ → ℕ → List ℕ
summary_of processors files bytes commands rows =
    count_line (codes "processors ") processors ++ count_line (codes "files ") files ++ count_line (codes "bytes ") bytes
    ++ count_line (codes "commands ") commands ++ count_line (codes "rows ") rows

-- so many files, bytes and commands are those of a machine's image
pub record AreCounts (machine : Machine) (files bytes commands : ℕ) : Type 0 where
  pub files_are : files ≡ length (image_items machine)
  pub bytes_are : bytes ≡ total_size (image_items machine)
  pub commands_are : commands ≡ length (image_script machine)

-- that of the machine that is generated of so many processors, once its files are in memory
unfoldable pub summary : ℕ → Memory → List ℕ
summary processors memory =
    let machine = generated processors in
    summary_of processors (length (image_items machine)) (total_size (image_items machine)) (length (image_script machine)) (length (rows_of memory).rows)

-- What `gen` makes of a number of processors: it boots the machine that is generated of it, and makes the summary.
pub data GenMakes (Gives : Answering) (processors : ℕ) (before after : Seen) : Made → Type 0 where
  counted : (is : IsMachineBooted Gives plain (generated processors) before after) {text : List ℕ} → text ≡ summary processors (memory_of is.loaded.world)
      → GenMakes Gives processors before after (Ok text)
  not_counted : {why : Fault} → FailsToBoot Gives plain (generated processors) before after why → GenMakes Gives processors before after (Err why)
