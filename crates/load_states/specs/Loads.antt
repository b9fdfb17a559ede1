-- What a whole load leaves.
use Rattle.std.specs.Prelude.{◌≡◌, ℕ, ◌+◌, ◌*◌, ◌/◌, List, [], length, None, Result, Ok, Err, IfOk, IfErr}
use Rattle.std.specs.List.{AllByRecursion}
use Rattle.vt_outside.specs.Name.{IsName}
use Rattle.vt_outside.specs.Placement.{Range}
use Rattle.cfg_directory.specs.declared.item.Item.{Item}
use Rattle.vt_bytes.specs.Memory.{Memory, IsMemory, IsRam, at}
use Rattle.cfg_directory.specs.Items.{IsItems}
use Rattle.cfg_directory.specs.Shapes.{HaveOneShape}
use Rattle.cfg_dma.specs.Device.{DeviceState}
use Rattle.loader_script.specs.declared.entry.Entry.{Entry}
use Rattle.loader_script.specs.Run.{End}
use Rattle.cfg_directory.specs.Files.{files_of}
use Rattle.command_acts.specs.declared.fault.LoadFault.{LoadFault}
use Rattle.command_acts.specs.FilesInMemory.{ArePlaced, placed_ranges}
use Rattle.command_acts.specs.Runs.{Answers, IsRun, result_of}
use Rattle.command_acts.specs.Script.{script_in}
use Rattle.load_states.specs.declared.event.Event.{Event}
use Rattle.load_states.specs.declared.stage.Stage.{Stage}
use Rattle.load_states.specs.declared.stage.Stage.TheVariants.{Done, Refused}
use Rattle.load_states.specs.Kept.{HasNothing, IsCleared, IsFilledBios, IsLeftByOthers}
use Rattle.load_states.specs.Steps.{opening_stage}
use Rattle.load_states.specs.LoadState.{LoadState, Opening, memory_of, opening_of, items_now, progress_of}
use Rattle.load_states.specs.Moves.{pieces_of, moves, script_size, most_transfers}

-- every RAM byte is the fill byte
abbrev pub IsBlank : Memory → Type 0
IsBlank m = (address : ℕ) → IsRam m.top address → at m address ≡ m.fill

-- A device as it is begun: item 0x0000 is selected, at offset 0, the address register is 0, and no transfer is in flight or over. There is
-- room for as many as a load of its items makes.
abbrev pub begun_device : List Item → DeviceState
begun_device its_items = record {
  items = its_items;
  opening = its_items;
  select = 0x0000;
  offset = 0;
  address = 0;
  flight = None;
  finished = [];
  spare = most_transfers its_items;
}

-- A load as it is begun: a device of its items, memory below its top in which every byte is the fill byte, and a firmware that has done
-- nothing.
pub record IsBegun (its : Opening) (w : LoadState) : Type 0 where
  pub lawful : IsItems its.items
  pub names : AllByRecursion (λ (item : Item). IsName item.name) its.items
  pub opening : opening_of w ≡ its
  pub device : w.attached.device ≡ begun_device its.items
  pub memory : IsMemory (memory_of w)
  pub blank : IsBlank (memory_of w)
  pub nothing : HasNothing its.items w
  pub stage : w.stage ≡ opening_stage

-- how far the firmware is when a load has ended so
abbrev pub stage_after : Result (Unit {0}) LoadFault → Stage
stage_after (Ok nothing) = Done
stage_after (Err why) = Refused why

-- the run of a script on plain lists, with the ranges that were handed out, ends so; its files stand in the device and in memory as it
-- leaves them
abbrev pub HasRun : Answers → List Item → List Entry → List Range → Result (Unit {0}) LoadFault → LoadState → Type 0
HasRun May items script handed answer w =
    (end : End) × IsRun May (files_of items) script handed end (progress_of w) × (answer ≡ result_of end)

-- A load is over, with this answer. Nothing was handed out where there was no script, and no item changed; else the script was run, and of
-- the items their bytes alone may have changed. The files that are placed stand in RAM, apart from each other. The rest of memory is as the
-- other processors left it, over the events so far; the BIOS area, which they can't write, holds the fill byte. Where the load is done the
-- work range holds it too, and each transfer is told.
pub record IsLoadedOver (May : Answers) (its : Opening) (events : List Event) (handed : List Range)
    (answer : Result (Unit {0}) LoadFault) (w : LoadState) : Type 0 where
  pub unread : IfErr (script_in its.items) (λ why. (answer ≡ Err why) × (handed ≡ []) × (items_now w ≡ its.items))
  pub ran : IfOk (script_in its.items) (λ script. HasRun May its.items script handed answer w)
  pub stage : w.stage ≡ stage_after answer
  pub placed : handed ≡ placed_ranges w.placed
  pub apart : ArePlaced its.top w.placed
  pub shape : HaveOneShape its.items (items_now w)
  pub idle : w.attached.device.flight ≡ None
  pub top : (memory_of w).top ≡ its.top
  pub fill : (memory_of w).fill ≡ its.fill
  pub others : IsLeftByOthers its.top its.fill events w
  pub bios : IsFilledBios its.fill w
  pub cleared : answer ≡ Ok tt → IsCleared (memory_of w)
  pub transfers : answer ≡ Ok tt → IfOk (script_in its.items) (λ script. w.attached.device.finished ≡ moves its.items script w.placed)

-- The most steps that a firmware takes for a load: two for the number of files, two for each piece of the entries and of the script, as many
-- as four for each command, and the closing one.
abbrev pub most_steps : List Item → ℕ
most_steps items = 3 + 2 * pieces_of (64 * length items) + 2 * pieces_of (script_size items) + 4 * (script_size items / 128)

-- the most events that a load takes once a plan has no more
abbrev pub most_closing : List Item → ℕ
most_closing items = 2 * most_steps items + 2
