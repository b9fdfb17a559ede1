-- The state of a load: the firmware, the device whose files it reads and writes, and the memory that both act on.
use Rattle.std.specs.Prelude.{ℕ, List, [], find, Option}
use Rattle.std.specs.Str.{bytes_eq}
use Rattle.vt_bytes.specs.Memory.{Memory}
use Rattle.cfg_directory.specs.declared.item.Item.{Item}
use Rattle.cfg_directory.specs.declared.listed.Listed.{Listed}
use Rattle.loader_script.specs.declared.entry.Entry.{Entry}
use Rattle.loader_script.specs.Run.{Placed, Progress}
use Rattle.cfg_directory.specs.Files.{files_of}
use Rattle.cfg_dma.specs.Transfers.{Attached}
use Rattle.command_acts.specs.declared.placed.PlacedFile.{PlacedFile}
use Rattle.command_acts.specs.FilesInMemory.{files_in}
use Rattle.command_acts.specs.Runs.{at_files}
use Rattle.load_states.specs.declared.stage.Stage.{Stage}

-- The state of the load: the device with the memory that it is attached to, how far the firmware is, the files of the directory and the
-- commands of the script that it has taken so far, and the files that are placed, in their order.
pub record LoadState : Type 0 where
  pub attached : Attached
  pub stage : Stage
  pub listed : List Listed
  pub script : List Entry
  pub placed : List PlacedFile

-- What a load is begun with: the items of its device, the top of memory, and the fill byte.
pub record Opening : Type 0 where
  pub items : List Item
  pub top : ℕ
  pub fill : ℕ

abbrev pub begun_with : List Item → ℕ → ℕ → Opening
begun_with its_items its_top its_fill = record { items = its_items; top = its_top; fill = its_fill }

-- the memory of a load, and the load with another one
abbrev pub memory_of : LoadState → Memory
memory_of w = w.attached.memory

abbrev pub with_memory : LoadState → Memory → LoadState
with_memory w m = record w { attached = record w.attached { memory = m } }

-- what a load was begun with, as its state tells
abbrev pub opening_of : LoadState → Opening
opening_of w = begun_with w.attached.device.opening (memory_of w).top (memory_of w).fill

-- the items of its device, as they are now
abbrev pub items_now : LoadState → List Item
items_now w = w.attached.device.items

-- the listed file of a name
abbrev pub listed_named : List Listed → List ℕ → Option Listed
listed_named listed name = find (λ (l : Listed). bytes_eq l.name name) listed

-- the files that are placed, with the bytes that memory holds there
abbrev pub files_now : LoadState → List Placed
files_now w = files_in (memory_of w) w.placed

-- how far the run of the script on plain lists is where files stand as they do now, but for the places that are still to be given
abbrev pub progress_of : LoadState → Progress
progress_of w = at_files (files_of (items_now w)) (files_now w) []
