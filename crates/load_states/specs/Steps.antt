-- One step of the load for one event.
use Rattle.std.specs.Prelude.{ℕ, suc, ◌+◌, ◌-◌, ◌*◌, ◌/◌, ◌==◌, Bool, not, List, [], ◌∷◌, ◌++◌, min, replicate, slice_get, Option, Some, None, if◌then◌else◌}
use Rattle.std.specs.List.{last_or}
use Rattle.std.specs.Option.{option_map_or}
use Rattle.vt_bytes.specs.Numbers.{be, le_bytes}
use Rattle.vt_bytes.specs.Memory.{Memory, bytes_at, with_bytes}
use Rattle.cfg_directory.specs.declared.listed.Listed.{Listed}
use Rattle.cfg_directory.specs.Listing.{listed_in}
use Rattle.loader_script.specs.LoaderName.{loader_name}
use Rattle.loader_script.specs.declared.entry.Entry.{Entry}
use Rattle.loader_script.specs.declared.entry.Entry.TheVariants.{Allocate, AddPointer, AddChecksum, WritePointer, Misnamed, Skipped}
use Rattle.loader_script.specs.declared.refusing.Cause.{Cause}
use Rattle.loader_script.specs.Run.{cause_of}
use Rattle.loader_script.specs.Spelling.{entries_of, is_script_length}
use Rattle.cfg_dma.specs.Device.{reset_device}
use Rattle.cfg_dma.specs.Transfers.{attached}
use Rattle.cfg_dma.specs.Events.{happens, Piece}
use Rattle.cfg_dma.specs.Reads.{selected_read, next_read, started}
use Rattle.cfg_dma.specs.Writes.{selected_skip, next_write}
use Rattle.command_acts.specs.declared.fault.LoadFault.TheVariants as fault
use Rattle.command_acts.specs.FilesInMemory.{place_of, pointed, summed}
use Rattle.command_acts.specs.declared.placed.PlacedFile.{PlacedFile}
use Rattle.load_states.specs.declared.event.Event.{Event}
use Rattle.load_states.specs.declared.event.Event.TheVariants.{Device, Firmware, Other, Reset}
use Rattle.load_states.specs.declared.stage.Stage.{Stage}
use Rattle.load_states.specs.declared.reading.Reading.{Reading}
use Rattle.load_states.specs.declared.reading.Reading.TheVariants as read
use Rattle.load_states.specs.declared.stage.Stage.TheVariants.{Asks, Awaits, AtCommand, AwaitsSkip, AsksWrite, AwaitsWrite, Done, Refused}
use Rattle.load_states.specs.Guarded.{descriptor_at, buffer_at, buffer_size, written_by_other}
use Rattle.load_states.specs.LoadState.{LoadState, memory_of, with_memory, listed_named, progress_of}

-- a transfer is started, with its descriptor in the work range
abbrev pub starting : ℕ → ℕ → ℕ → LoadState → LoadState
starting control size address w = record w { attached = started descriptor_at control size address w.attached }

-- A look at the control word: the transfer is over where it is zero.
abbrev pub is_over : LoadState → Bool
is_over w = be (bytes_at (memory_of w) descriptor_at 4) == 0

-- the first so many bytes of the buffer
abbrev pub buffered : ℕ → LoadState → List ℕ
buffered count w = bytes_at (memory_of w) buffer_at count

-- how many bytes the next read asks for, where so many are still to come
abbrev pub asked : ℕ → ℕ
asked left = min buffer_size left

-- What a transfer is asked for with: its control word, how many bytes it moves, and where to.
pub record Asking : Type 0 where
  pub control : ℕ
  pub size : ℕ
  pub address : ℕ

-- bytes of an item, of which so many are still to come, are read into the buffer
abbrev pub into_buffer : ℕ → ℕ → Asking
into_buffer control left = record { control = control; size = asked left; address = buffer_at }

-- the control word that asks for the next commands of the script: the first ones stand at the start of its file
abbrev pub script_control : ℕ → ℕ → ℕ
script_control select taken = if taken == 0 then selected_read select else next_read

-- a placed file is read whole and straight to its place
abbrev pub to_its_place : List Listed → Option PlacedFile → Asking
to_its_place listed None = record { control = 0; size = 0; address = 0 }
to_its_place listed (Some p) = record {
  control = selected_read (option_map_or (λ (file : Listed). file.select) (listed_named listed p.name) 0);
  size = p.size;
  address = p.place;
}

-- what the transfer of a reading is asked for with
abbrev pub asking_for : Reading → LoadState → Asking
asking_for read.Count w = into_buffer (selected_read 0x19) 4
asking_for (read.Entries size taken) w = into_buffer next_read (size - taken)
asking_for (read.Commands select size taken) w = into_buffer (script_control select taken) (size - taken)
asking_for (read.File index) w = to_its_place w.listed (last_or None w.placed)

-- the firmware asks for it, and then awaits it
abbrev pub asking : Reading → Asking → LoadState → LoadState
asking reading what w = record (starting what.control what.size what.address w) { stage = Awaits reading }

abbrev pub asks : Reading → LoadState → LoadState
asks reading w = asking reading (asking_for reading w) w

-- the firmware awaits the file that the command of an index has placed
abbrev pub awaits_file : ℕ → Stage
awaits_file index = Awaits (read.File index)

-- The number of files was read: none is no script.
abbrev pub counted : ℕ → LoadState → LoadState
counted count w = record w { stage = if count == 0 then Refused fault.NoScript else Asks (read.Entries (64 * count) 0) }

-- The directory was read, and the script is looked for: there is none, its length is no script's, it has no commands, or they are asked for.
abbrev pub stage_for : Option Listed → Stage
stage_for None = Refused fault.NoScript
stage_for (Some file) =
    if not (is_script_length file.size) then Refused fault.ScriptLength
    else (if file.size == 0 then AtCommand 0 else Asks (read.Commands file.select file.size 0))

-- entries of the directory were read, so many bytes, which are these, and all of them or only some
abbrev pub entries_taken : ℕ → ℕ → ℕ → List ℕ → LoadState → LoadState
entries_taken size taken count bytes w =
    let listed = w.listed ++ listed_in (count / 64) bytes in
    record w {
      listed = listed;
      stage = if taken + count == size then stage_for (listed_named listed loader_name) else Asks (read.Entries size (taken + count));
    }

-- commands of the script were read, so many bytes, which are these
abbrev pub commands_taken : ℕ → ℕ → ℕ → ℕ → List ℕ → LoadState → LoadState
commands_taken select size taken count bytes w = record w {
  script = w.script ++ entries_of (count / 128) bytes;
  stage = if taken + count == size then AtCommand 0 else Asks (read.Commands select size (taken + count));
}

-- the firmware goes on to the next command
abbrev pub passed : ℕ → LoadState → LoadState
passed index w = record w { stage = AtCommand (suc index) }

-- a file of the directory is placed
abbrev pub with_placed : List ℕ → ℕ → Listed → LoadState → LoadState
with_placed name place file w = record w { placed = w.placed ++ record { name = name; place = place; size = file.size } ∷ [] }

-- A file is placed, and asked for. (A file that isn't listed is refused before.)
abbrev pub placed_at : ℕ → List ℕ → ℕ → Option Listed → LoadState → LoadState
placed_at index name place None w = passed index w
placed_at index name place (Some file) w = asks (read.File index) (with_placed name place file w)

-- The skip to where a WritePointer writes is asked for, in the file that it writes. (A file that isn't listed is refused before.)
abbrev pub skips : ℕ → ℕ → Option Listed → LoadState → LoadState
skips index offset None w = passed index w
skips index offset (Some file) w = record (starting (selected_skip file.select) offset 0 w) { stage = AwaitsSkip index }

-- What a command that isn't refused makes of the load, with the place that an allocator gave for an Allocate. A misnamed command is refused
-- before.
abbrev pub carried_out : ℕ → Entry → Option ℕ → LoadState → LoadState
carried_out index (Allocate name align zone) None w = record w { stage = Refused (fault.NoRoom index) }
carried_out index (Allocate name align zone) (Some place) w = placed_at index name place (listed_named w.listed name) w
carried_out index (AddPointer dest src offset size) answer w =
    passed index (with_memory w (pointed (memory_of w) w.placed dest src offset size))
carried_out index (AddChecksum name offset start count) answer w =
    passed index (with_memory w (summed (memory_of w) w.placed name offset start count))
carried_out index (WritePointer dest src dst_offset src_offset size) answer w = skips index dst_offset (listed_named w.listed dest) w
carried_out index (Misnamed command) answer w = passed index w
carried_out index (Skipped command) answer w = passed index w

-- the command of an index: it is refused for its first cause, or carried out
abbrev pub commanded : ℕ → Entry → Option Cause → Option ℕ → LoadState → LoadState
commanded index entry (Some cause) answer w = record w { stage = Refused (fault.Command index cause) }
commanded index entry None answer w = carried_out index entry answer w

-- The closing step: the work range is filled, and the load is done.
abbrev pub cleared : Memory → Memory
cleared m = with_bytes (with_bytes m descriptor_at (replicate 16 m.fill)) buffer_at (replicate buffer_size m.fill)

abbrev pub closed : LoadState → LoadState
closed w = record (with_memory w (cleared (memory_of w))) { stage = Done }

-- the command of an index, or the closing step behind the last one
abbrev pub at_command : ℕ → Option Entry → Option ℕ → LoadState → LoadState
at_command index None answer w = closed w
at_command index (Some entry) answer w = commanded index entry (cause_of entry (progress_of w)) answer w

-- What the firmware takes of a transfer that is over: from the buffer, or the file, which stands at its place.
abbrev pub taken_of : Reading → LoadState → LoadState
taken_of read.Count w = counted (be (buffered 4 w)) w
taken_of (read.Entries size taken) w = let count = asked (size - taken) in entries_taken size taken count (buffered count w) w
taken_of (read.Commands select size taken) w = let count = asked (size - taken) in commands_taken select size taken count (buffered count w) w
taken_of (read.File index) w = passed index w

-- the number that a WritePointer writes: the place of a file and an offset in it, low byte first
abbrev pub number_for : LoadState → List ℕ → ℕ → ℕ → List ℕ
number_for w src src_offset size = le_bytes size (place_of w.placed src + src_offset)

-- It is put into the buffer, and its write asked for. (None but a WritePointer comes here.)
abbrev pub writes : ℕ → Option Entry → LoadState → LoadState
writes index (Some (WritePointer dest src dst_offset src_offset size)) w =
    let there = with_memory w (with_bytes (memory_of w) buffer_at (number_for w src src_offset size)) in
    record (starting next_write size buffer_at there) { stage = AwaitsWrite index }
writes index (Some (Allocate name align zone)) w = w
writes index (Some (AddPointer dest src offset size)) w = w
writes index (Some (AddChecksum name offset start count)) w = w
writes index (Some (Misnamed command)) w = w
writes index (Some (Skipped command)) w = w
writes index None w = w

-- One step of the firmware, from a stage, with the answer of an allocator where it asks for a place. It takes nothing of a transfer before it
-- has seen it over.
abbrev pub firmware_step : Stage → Option ℕ → LoadState → LoadState
firmware_step (Asks reading) answer w = asks reading w
firmware_step (Awaits reading) answer w = if is_over w then taken_of reading w else w
firmware_step (AtCommand index) answer w = at_command index (slice_get w.script index) answer w
firmware_step (AwaitsSkip index) answer w = if is_over w then record w { stage = AsksWrite index } else w
firmware_step (AsksWrite index) answer w = writes index (slice_get w.script index) w
firmware_step (AwaitsWrite index) answer w = if is_over w then passed index w else w
firmware_step Done answer w = w
firmware_step (Refused why) answer w = w

-- ---- a reset

-- a firmware as it is begun asks for the number of files
abbrev pub opening_stage : Stage
opening_stage = Asks read.Count

-- the memory behind a reset: the F segment holds the fill byte
unfoldable pub refilled : Memory → Memory
refilled m = with_bytes m 0xF0000 (replicate 0x10000 m.fill)

-- the load behind a reset
abbrev pub restarted : LoadState → LoadState
restarted w = record w {
  attached = attached (reset_device w.attached.device) (refilled (memory_of w));
  stage = opening_stage;
  listed = [];
  script = [];
  placed = [];
}

-- One step of the load for one event: a piece of the device's transfer, a step of the firmware, a byte of another processor,
-- or a reset.
abbrev pub step : Event → Option ℕ → LoadState → LoadState
step (Device bytes) answer w = record w { attached = happens (Piece bytes) w.attached }
step Firmware answer w = firmware_step w.stage answer w
step (Other address byte) answer w = with_memory w (written_by_other address byte (memory_of w))
step Reset answer w = restarted w
