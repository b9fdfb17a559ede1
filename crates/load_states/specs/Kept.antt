-- What a load keeps over every event: of its state, the items that it was begun with, and the events so far.
use Rattle.std.specs.Prelude.{◌≡◌, ℕ, suc, ◌+◌, ◌*◌, ◌/◌, ◌<◌, ◌≤◌, ◌⊎◌, true, false, List, [], ◌∷◌, ◌++◌, length, take, slice_get, Some, None, Result, Ok}
use Rattle.std.specs.Prelude.{Err, IfOk, IfErr}
use Rattle.std.specs.List.{AllByRecursion}
use Rattle.vt_outside.specs.Name.{IsName}
use Rattle.vt_outside.specs.Placement.{Range, high_zone, f_segment}
use Rattle.vt_bytes.specs.Memory.{Memory, IsMemory, IsRam, at, bios_start, bios_end}
use Rattle.cfg_directory.specs.declared.item.Item.{Item}
use Rattle.cfg_directory.specs.Items.{IsItems, named}
use Rattle.cfg_directory.specs.Listing.{listed_of}
use Rattle.cfg_directory.specs.Shapes.{HaveOneShape}
use Rattle.cfg_directory.specs.Files.{files_of}
use Rattle.loader_script.specs.LoaderName.{loader_name}
use Rattle.loader_script.specs.declared.entry.Entry.{Entry}
use Rattle.loader_script.specs.declared.entry.Entry.TheVariants.{Allocate, WritePointer}
use Rattle.loader_script.specs.Run.{Progress, End, infos_of, cause_of, opening, Done as AllDone}
use Rattle.cfg_dma.specs.Device.{IsDevice, StandsWhereLeft}
use Rattle.cfg_dma.specs.Transfers.{room_of}
use Rattle.cfg_dma.specs.declared.transfer.Finished.{Finished}
use Rattle.cfg_dma.specs.Reads.{IsAwaited, AsksFor, read_of, selected_read, next_read}
use Rattle.cfg_dma.specs.Writes.{IsSkipped, IsWriteAwaited, skip_of, write_of}
use Rattle.command_acts.specs.declared.fault.LoadFault.{LoadFault}
use Rattle.command_acts.specs.declared.placed.PlacedFile.{PlacedFile}
use Rattle.command_acts.specs.FilesInMemory.{files_in, placed_ranges, IsLoading, IsBeside}
use Rattle.command_acts.specs.Placing.{count_places, places_in}
use Rattle.command_acts.specs.Runs.{Answers, EndsWith, IsRun, at_files, with_file, result_of}
use Rattle.command_acts.specs.Script.{script_in}
use Rattle.load_states.specs.declared.event.Event.{Event}
use Rattle.load_states.specs.declared.stage.Stage.{Stage}
use Rattle.load_states.specs.declared.reading.Reading.{Reading}
use Rattle.load_states.specs.declared.reading.Reading.TheVariants as read
use Rattle.load_states.specs.declared.stage.Stage.TheVariants.{Asks, Awaits, AtCommand, AwaitsSkip, AsksWrite, AwaitsWrite, Done, Refused}
use Rattle.load_states.specs.Guarded.{descriptor_at, buffer_at, buffer_size, is_work, is_high}
use Rattle.load_states.specs.LoadState.{LoadState, Opening, memory_of, items_now, files_now, progress_of}
use Rattle.load_states.specs.Steps.{script_control, number_for}
use Rattle.load_states.specs.Moves.{count_read, piece_read, first_reads, directory_reads, moves, most_transfers}
use Rattle.load_states.specs.Runs.{left_by_others, has_reset}

-- no transfer is in flight, and these are over
pub record IsIdle (w : LoadState) (before : List Finished) : Type 0 where
  pub idle : w.attached.device.flight ≡ None
  pub finished : w.attached.device.finished ≡ before

-- A read of a load: the transfers that are over before it, its control word, and the transfer that it is.
pub record LoadRead : Type 0 where
  pub before : List Finished
  pub control : ℕ
  pub transfer : Finished

-- the firmware asks for this read next
pub record IsNext (w : LoadState) (r : LoadRead) : Type 0 where
  pub idle : IsIdle w r.before
  pub asks : AsksFor r.control w.attached.device r.transfer

-- and it awaits it
abbrev pub IsAwaiting : LoadState → LoadRead → Type 0
IsAwaiting w r = IsAwaited (items_now w) r.before descriptor_at r.control r.transfer w.attached

-- The firmware has taken nothing and placed nothing. The items are those that the load was begun with.
pub record HasNothing (items : List Item) (w : LoadState) : Type 0 where
  pub begun : items_now w ≡ items
  pub listed : w.listed ≡ []
  pub script : w.script ≡ []
  pub placed : w.placed ≡ []

-- The firmware has taken some pieces of the directory's entries, and knows the files that those list.
pub record HasEntries (items : List Item) (size taken : ℕ) (w : LoadState) : Type 0 where
  pub begun : items_now w ≡ items
  pub pieces : ℕ
  pub taken_is : taken ≡ buffer_size * pieces
  pub size_is : size ≡ 64 * length items
  pub some_left : taken < size
  pub listed : w.listed ≡ take (taken / 64) (listed_of items)
  pub script : w.script ≡ []
  pub placed : w.placed ≡ []

-- It knows all files, has taken some pieces of the script, and knows the commands in those.
pub record HasCommands (items : List Item) (select size taken : ℕ) (w : LoadState) : Type 0 where
  pub begun : items_now w ≡ items
  pub pieces : ℕ
  pub taken_is : taken ≡ buffer_size * pieces
  pub some_left : taken < size
  pub loader : Item
  pub there : named items loader_name ≡ Some loader
  pub select_is : select ≡ loader.select
  pub size_is : size ≡ length loader.bytes
  pub whole : List Entry
  pub whole_is : script_in items ≡ Ok whole
  pub listed : w.listed ≡ listed_of items
  pub script : w.script ≡ take (taken / 128) whole
  pub placed : w.placed ≡ []

-- it knows all files and the whole script
pub record HasScript (items : List Item) (w : LoadState) : Type 0 where
  pub listed : w.listed ≡ listed_of items
  pub script : script_in items ≡ Ok w.script

-- the transfers that are over where some pieces of the entries were taken, and where all were and some of the script
abbrev pub with_entries : ℕ → ℕ → List Finished
with_entries size pieces = count_read ∷ first_reads 0x19 4 size pieces

abbrev pub with_commands : List Item → ℕ → ℕ → ℕ → List Finished
with_commands items select size pieces = directory_reads items ++ first_reads select 0 size pieces

-- So many commands of the script are carried out: the run of these on plain lists, with the places that were given, is done, and has come so far.
abbrev pub HasCarriedOut : Answers → List Item → ℕ → Progress → LoadState → Type 0
HasCarriedOut May items count p w = IsRun May (files_of items) (take count w.script) (placed_ranges w.placed) AllDone p

-- the transfers that are over where so many commands are carried out
abbrev pub moves_before : List Item → ℕ → LoadState → List PlacedFile → List Finished
moves_before items count w placed = moves items (take count w.script) placed

-- The last file that was placed is still to come: the commands up to its Allocate have made those before it, as they stand in memory, and this
-- one, as fw_cfg has it.
pub record IsComing (May : Answers) (items : List Item) (index : ℕ) (w : LoadState) : Type 0 where
  pub script : HasScript items w
  pub before : List PlacedFile
  pub last : PlacedFile
  pub align : ℕ
  pub zone : ℕ
  pub command : slice_get w.script index ≡ Some (Allocate last.name align zone)
  pub file : Item
  pub placed_are : w.placed ≡ before ++ last ∷ []
  pub there : named (items_now w) last.name ≡ Some file
  pub size : last.size ≡ length file.bytes
  pub run : HasCarriedOut May items (suc index)
      (with_file (at_files (files_of (items_now w)) (files_in (memory_of w) before) []) last.name last.place) w

-- The command of an index is a WritePointer, which isn't refused where its device has these items; those before it are carried out.
pub record IsPointing (May : Answers) (items before : List Item) (index : ℕ) (w : LoadState) : Type 0 where
  pub script : HasScript items w
  pub lawful : IsItems before
  pub dest : List ℕ
  pub src : List ℕ
  pub dst_offset : ℕ
  pub src_offset : ℕ
  pub size : ℕ
  pub command : slice_get w.script index ≡ Some (WritePointer dest src dst_offset src_offset size)
  pub goes : cause_of (WritePointer dest src dst_offset src_offset size) (at_files (files_of before) (files_now w) []) ≡ None
  pub file : Item
  pub there : named before dest ≡ Some file
  pub run : HasCarriedOut May items index (at_files (files_of before) (files_now w) []) w

-- The skip to where it writes is over.
abbrev pub HasSkipped : Answers → List Item → ℕ → LoadState → Type 0
HasSkipped May items index w =
    (known : IsPointing May items (items_now w) index w)
    × IsSkipped (moves_before items index w w.placed) descriptor_at known.file.select known.dst_offset w.attached

-- Its number is being written, or is.
abbrev pub IsPutting : Answers → List Item → ℕ → LoadState → Type 0
IsPutting May items index w =
    (before : List Item) × (known : IsPointing May items before index w)
    × IsWriteAwaited before (number_for w known.src known.src_offset known.size)
    (moves_before items index w w.placed ++ skip_of known.file.select known.dst_offset ∷ []) descriptor_at
    (write_of known.file.select known.dst_offset known.size buffer_at) w.attached

-- What is known while something is read.
abbrev pub Knows : Answers → List Item → LoadState → Reading → Type 0
Knows May items w read.Count = HasNothing items w
Knows May items w (read.Entries size taken) = HasEntries items size taken w
Knows May items w (read.Commands select size taken) = HasCommands items select size taken w
Knows May items w (read.File index) = IsComing May items index w

-- The read by which it is.
abbrev pub read_by : (May : Answers) (items : List Item) (w : LoadState) (reading : Reading) → Knows May items w reading → LoadRead
read_by May items w read.Count has = record { before = []; control = selected_read 0x19; transfer = count_read }
read_by May items w (read.Entries size taken) has =
    record { before = with_entries size has.pieces; control = next_read; transfer = piece_read 0x19 4 size has.pieces }
read_by May items w (read.Commands select size taken) has = record {
  before = with_commands items select size has.pieces;
  control = script_control select taken;
  transfer = piece_read select 0 size has.pieces;
}
read_by May items w (read.File index) has = record {
  before = moves_before items index w has.before;
  control = selected_read has.file.select;
  transfer = read_of has.file.select 0 has.last.size has.last.place;
}

-- What a firmware asks for next goes through the buffer, and has bytes that are still to come. (A file is asked for in the step that places
-- it.)
abbrev pub IsLeft : Reading → Type 0
IsLeft read.Count = Unit {0}
IsLeft (read.Entries size taken) = taken < size
IsLeft (read.Commands select size taken) = taken < size
IsLeft (read.File index) = ⊥

-- The load has ended so: without a script nothing is placed and no item changed, and else the run of the script on plain lists ends so, with
-- the files that stand in the device and in memory now.
pub record HasEnded (May : Answers) (items : List Item) (answer : Result (Unit {0}) LoadFault) (w : LoadState) : Type 0 where
  pub idle : w.attached.device.flight ≡ None
  pub unread : IfErr (script_in items) (λ why. (answer ≡ Err why) × (w.placed ≡ []) × (items_now w ≡ items))
  pub ran : IfOk (script_in items) (λ script.
      (end : End) × EndsWith May 0 script (opening (files_of items) []) end (progress_of w) × (answer ≡ result_of end))

-- the work range holds the fill byte
abbrev pub IsCleared : Memory → Type 0
IsCleared m = (address : ℕ) → is_work address ≡ true → at m address ≡ m.fill

-- What holds at each stage.
abbrev pub StageKeeps : Answers → List Item → LoadState → Stage → Type 0
StageKeeps May items w (Asks reading) =
    IsLeft reading × ((known : Knows May items w reading) × IsNext w (read_by May items w reading known))
StageKeeps May items w (Awaits reading) = (known : Knows May items w reading) × IsAwaiting w (read_by May items w reading known)
StageKeeps May items w (AtCommand index) =
    HasScript items w × (index ≤ length w.script) × IsIdle w (moves_before items index w w.placed)
    × HasCarriedOut May items index (progress_of w) w
StageKeeps May items w (AwaitsSkip index) = HasSkipped May items index w
StageKeeps May items w (AsksWrite index) = HasSkipped May items index w
StageKeeps May items w (AwaitsWrite index) = IsPutting May items index w
StageKeeps May items w Done =
    HasEnded May items (Ok tt) w × IfOk (script_in items) (λ script. w.attached.device.finished ≡ moves items script w.placed)
    × IsCleared (memory_of w)
StageKeeps May items w (Refused why) = HasEnded May items (Err why) w

-- a placed file lies in one of the zones
abbrev pub LiesIn : Range → PlacedFile → Type 0
LiesIn range p = (range.start ≤ p.place) × (p.place + p.size ≤ range.end)

abbrev pub IsInZone : ℕ → PlacedFile → Type 0
IsInZone top p = LiesIn (high_zone top) p ⊎ LiesIn f_segment p

-- the BIOS area holds the fill byte, beside the files that are placed there
abbrev pub IsFilledBios : ℕ → LoadState → Type 0
IsFilledBios fill w = (address : ℕ) → bios_start ≤ address → address < bios_end → AllByRecursion (IsBeside address) w.placed
    → at (memory_of w) address ≡ fill

-- What a load keeps at each moment that was begun with this, where places are answered as they may be. Of the items their bytes alone may change;
-- which they are is said by the stage.
pub record KeepsNow (May : Answers) (its : Opening) (w : LoadState) : Type 0 where
  pub lawful : IsItems its.items
  pub names : AllByRecursion (λ (item : Item). IsName item.name) its.items
  pub opening : w.attached.device.opening ≡ its.items
  pub shape : HaveOneShape its.items (items_now w)
  pub device : IsDevice w.attached.device
  pub room : room_of w.attached.device ≡ most_transfers its.items
  pub stands : StandsWhereLeft w.attached.device
  pub memory : IsMemory (memory_of w)
  pub top : (memory_of w).top ≡ its.top
  pub fill : (memory_of w).fill ≡ its.fill
  pub loading : IsLoading its.top (files_of (items_now w)) w.placed
  pub zones : AllByRecursion (IsInZone its.top) w.placed
  pub count : length w.placed ≡ count_places (places_in w.placed (infos_of (files_of (items_now w))))
  pub bios : IsFilledBios its.fill w
  pub stage : StageKeeps May its.items w w.stage

-- what is told of an address over events: of high memory nothing, where a reset is among them, since a load before it may have left a byte there
abbrev pub IsTold : ℕ → List Event → ℕ → Type 0
IsTold top events address = (has_reset events ≡ false) ⊎ (is_high top address ≡ false)

-- RAM outside of the work range and of the placed files is as the other processors left it
abbrev pub IsLeftByOthers : ℕ → ℕ → List Event → LoadState → Type 0
IsLeftByOthers top fill events w = (address : ℕ) → IsRam top address → is_work address ≡ false → AllByRecursion (IsBeside address) w.placed
    → IsTold top events address → at (memory_of w) address ≡ left_by_others top fill events address

-- What it keeps over these events: that at each moment, and RAM as the other processors left it.
pub record IsKept (May : Answers) (its : Opening) (events : List Event) (w : LoadState) : Type 0 where
  pub now : KeepsNow May its w
  pub others : IsLeftByOthers its.top its.fill events w
