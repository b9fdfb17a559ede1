-- How far a load is, but for places: a function of the events alone, where no command is refused.
use Rattle.std.specs.Prelude.{ℕ, suc, ◌+◌, ◌-◌, ◌*◌, ◌==◌, if◌then◌else◌, List, [], ◌∷◌, length, min, slice_get, Option, None, Some, Result, Ok}
use Rattle.std.specs.Prelude.{Err, is_none, option_map}
use Rattle.cfg_directory.specs.declared.item.Item.{Item}
use Rattle.cfg_directory.specs.Files.{files_of}
use Rattle.cfg_directory.specs.Listing.{listed_of}
use Rattle.loader_script.specs.LoaderName.{loader_name}
use Rattle.loader_script.specs.declared.entry.Entry.{Entry}
use Rattle.loader_script.specs.declared.entry.Entry.TheVariants.{Allocate, AddPointer, AddChecksum, WritePointer, Misnamed, Skipped}
use Rattle.loader_script.specs.Run.{bytes_of}
use Rattle.cfg_dma.specs.declared.transfer.Flight.{Flight}
use Rattle.command_acts.specs.declared.fault.LoadFault.{LoadFault}
use Rattle.command_acts.specs.Script.{script_in}
use Rattle.load_states.specs.declared.event.Event.{Event}
use Rattle.load_states.specs.declared.event.Event.TheVariants.{Device, Firmware, Other, Reset}
use Rattle.load_states.specs.declared.stage.Stage.{Stage}
use Rattle.load_states.specs.declared.reading.Reading.{Reading}
use Rattle.load_states.specs.declared.reading.Reading.TheVariants as read
use Rattle.load_states.specs.declared.stage.Stage.TheVariants.{Asks, Awaits, AtCommand, AwaitsSkip, AsksWrite, AwaitsWrite, Done, Refused}
use Rattle.load_states.specs.LoadState.{LoadState, listed_named}
use Rattle.load_states.specs.Steps.{asked, stage_for}

-- How far a load is, but for places: its stage, and how many bytes of the transfer in flight were moved, if there is one.
pub record Pace : Type 0 where
  pub stage : Stage
  pub moved : Option ℕ

abbrev pub moved_in : Option Flight → Option ℕ
moved_in flight = option_map (λ (f : Flight). f.moved) flight

abbrev pub pace_of : LoadState → Pace
pace_of w = record { stage = w.stage; moved = moved_in w.attached.device.flight }

-- the commands of the items' script, or none
abbrev pub commands_in : Result (List Entry) LoadFault → List Entry
commands_in (Ok script) = script
commands_in (Err why) = []

abbrev pub commands_of : List Item → List Entry
commands_of items = commands_in (script_in items)

-- how many bytes the transfer of a command has
abbrev pub file_length : List Item → Option Entry → ℕ
file_length items (Some (Allocate name align zone)) = length (bytes_of (files_of items) name)
file_length items _ = 0

abbrev pub number_length : Option Entry → ℕ
number_length (Some (WritePointer dest src dst_offset src_offset size)) = size
number_length _ = 0

-- how many bytes the transfer of a reading has, and that of a stage
abbrev pub reading_length : List Item → Reading → ℕ
reading_length items read.Count = 4
reading_length items (read.Entries size taken) = asked (size - taken)
reading_length items (read.Commands select size taken) = asked (size - taken)
reading_length items (read.File index) = file_length items (slice_get (commands_of items) index)

abbrev pub length_at : List Item → Stage → ℕ
length_at items (Awaits reading) = reading_length items reading
length_at items (AwaitsWrite index) = number_length (slice_get (commands_of items) index)
length_at items _ = 0

-- so many bytes of a transfer of a length are moved, or as many as are left; with the last one it is over
abbrev pub advanced_by : ℕ → ℕ → Option ℕ → Option ℕ
advanced_by total bytes None = None
advanced_by total bytes (Some moved) =
    let now = moved + min bytes (total - moved) in if now == total then None else Some now

-- what comes behind a reading that is over
abbrev pub behind_reading : List Item → Reading → Stage
behind_reading items read.Count = Asks (read.Entries (64 * length items) 0)
behind_reading items (read.Entries size taken) =
    let count = asked (size - taken) in
    if taken + count == size then stage_for (listed_named (listed_of items) loader_name) else Asks (read.Entries size (taken + count))
behind_reading items (read.Commands select size taken) =
    let count = asked (size - taken) in if taken + count == size then AtCommand 0 else Asks (read.Commands select size (taken + count))
behind_reading items (read.File index) = AtCommand (suc index)

-- a command is come to: the pace behind it, where it isn't refused
abbrev pub at_entry : ℕ → Option Entry → Option ℕ → Pace
at_entry index (Some (Allocate name align zone)) moved = record { stage = Awaits (read.File index); moved = Some 0 }
at_entry index (Some (WritePointer dest src dst_offset src_offset size)) moved = record { stage = AwaitsSkip index; moved = moved }
at_entry index (Some (AddPointer dest src offset size)) moved = record { stage = AtCommand (suc index); moved = moved }
at_entry index (Some (AddChecksum name offset start count)) moved = record { stage = AtCommand (suc index); moved = moved }
at_entry index (Some (Misnamed command)) moved = record { stage = AtCommand (suc index); moved = moved }
at_entry index (Some (Skipped command)) moved = record { stage = AtCommand (suc index); moved = moved }
at_entry index None moved = record { stage = Done; moved = moved }

-- the pace behind a step of the firmware, and behind an event
abbrev pub stepped : List Item → Stage → Option ℕ → Pace
stepped items (Asks reading) moved = record { stage = Awaits reading; moved = Some 0 }
stepped items (Awaits reading) moved =
    record { stage = if is_none moved then behind_reading items reading else Awaits reading; moved = moved }
stepped items (AtCommand index) moved = at_entry index (slice_get (commands_of items) index) moved
stepped items (AwaitsSkip index) moved = record { stage = AsksWrite index; moved = moved }
stepped items (AsksWrite index) moved = record { stage = AwaitsWrite index; moved = Some 0 }
stepped items (AwaitsWrite index) moved =
    record { stage = if is_none moved then AtCommand (suc index) else AwaitsWrite index; moved = moved }
stepped items Done moved = record { stage = Done; moved = moved }
stepped items (Refused why) moved = record { stage = Refused why; moved = moved }

-- a load that is begun
abbrev pub opening_pace : Pace
opening_pace = record { stage = Asks read.Count; moved = None }

abbrev pub paced : List Item → Event → Pace → Pace
paced items (Device bytes) p = record p { moved = advanced_by (length_at items p.stage) bytes p.moved }
paced items Firmware p = stepped items p.stage p.moved
paced items (Other address byte) p = p
paced items Reset p = opening_pace

-- a load isn't refused
abbrev pub IsUnrefused : Stage → Type 0
IsUnrefused (Refused why) = ⊥
IsUnrefused _ = Unit {0}

-- the pace behind events
abbrev pub paced_over : List Item → List Event → Pace → Pace
paced_over items [] p = p
paced_over items (event ∷ events) p = paced_over items events (paced items event p)
