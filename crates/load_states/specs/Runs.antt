-- Whole runs of the load, over any list of events.
use Rattle.std.specs.Prelude.{◌≡◌, ◌==◌, ◌&&◌, not, if◌then◌else◌, ℕ, zero, suc, Bool, true, false, List, [], ◌∷◌, slice_get, Option, None}
use Rattle.std.specs.Prelude.{MatchOption, IfSome, IsSomeAnd}
use Rattle.std.specs.Option.{option_map_or}
use Rattle.loader_script.specs.declared.entry.Entry.{Entry}
use Rattle.loader_script.specs.declared.refusing.Cause.{Cause}
use Rattle.loader_script.specs.Run.{cause_of}
use Rattle.vt_outside.specs.Placement.{IsFree}
use Rattle.zone_alloc.specs.declared.alloc.Request.{Request}
use Rattle.zone_alloc.specs.Zones.{zone_range}
use Rattle.cfg_directory.specs.Files.{files_of}
use Rattle.command_acts.specs.FilesInMemory.{placed_ranges}
use Rattle.command_acts.specs.Runs.{Answers, request_by}
use Rattle.load_states.specs.declared.event.Event.{Event}
use Rattle.load_states.specs.declared.event.Event.TheVariants.{Device, Firmware, Other, Reset}
use Rattle.load_states.specs.declared.stage.Stage.{Stage}
use Rattle.load_states.specs.declared.stage.Stage.TheVariants.{Asks, Awaits, AtCommand, AwaitsSkip, AsksWrite, AwaitsWrite, Done, Refused}
use Rattle.load_states.specs.Guarded.{is_guarded}
use Rattle.load_states.specs.LoadState.{LoadState, items_now, progress_of}
use Rattle.load_states.specs.Steps.{step}

-- what a command asks of an allocator, unless it is refused
abbrev pub request_for : Entry → LoadState → Option Request
request_for entry w =
    option_map_or (λ (cause : Cause). None) (cause_of entry (progress_of w)) (request_by (files_of (items_now w)) entry)

-- what a step of the firmware asks, and a step for an event
abbrev pub request_at : Stage → LoadState → Option Request
request_at (AtCommand index) w = option_map_or (λ entry. request_for entry w) (slice_get w.script index) None
request_at (AwaitsSkip index) w = None
request_at (AsksWrite index) w = None
request_at (AwaitsWrite index) w = None
request_at (Asks reading) w = None
request_at (Awaits reading) w = None
request_at Done w = None
request_at (Refused why) w = None

abbrev pub request_of : Event → LoadState → Option Request
request_of Firmware w = request_at w.stage w
request_of (Device bytes) w = None
request_of (Other address byte) w = None
request_of Reset w = None

-- The load goes on from one state to the next by an event, with what is asked of an allocator: its answer is one that it may give.
abbrev pub StepsBy : Answers → Event → LoadState → LoadState → Option Request → Type 0
StepsBy May event w next asked =
    MatchOption asked (next ≡ step event None w)
    (λ request. (answer : Option ℕ) × May (placed_ranges w.placed) request answer × (next ≡ step event answer w))

-- and with what the event asks
abbrev pub StepsTo : Answers → Event → LoadState → LoadState → Type 0
StepsTo May event w next = StepsBy May event w next (request_of event w)

-- any answer that is lawful: a place that is given is free in the zone that was asked for
abbrev pub AnyLawful : ℕ → Answers
AnyLawful top handed request answer = IfSome answer (λ place. IsFree (zone_range top request.zone) handed request.size request.align place)

-- and one that gives a place each time
abbrev pub GivesLawful : ℕ → Answers
GivesLawful top handed request answer =
    IsSomeAnd answer (λ place. IsFree (zone_range top request.zone) handed request.size request.align place)

-- no answer: no place was asked for yet
abbrev pub NoAnswer : Answers
NoAnswer handed request answer = ⊥

-- whether the load has ended
abbrev pub has_ended : Stage → Bool
has_ended Done = true
has_ended (Refused why) = true
has_ended (Asks reading) = false
has_ended (Awaits reading) = false
has_ended (AtCommand index) = false
has_ended (AwaitsSkip index) = false
has_ended (AsksWrite index) = false
has_ended (AwaitsWrite index) = false

-- The run over events, none of which comes behind the load's end. Whether the load has ended behind the last of them isn't said.
abbrev pub RunsTo : Answers → List Event → LoadState → LoadState → Type 0
RunsTo May [] w last = last ≡ w
RunsTo May (event ∷ events) w last =
    (has_ended w.stage ≡ false) × ((next : LoadState) × StepsTo May event w next × RunsTo May events next last)

-- the run over events that ends the load with the last of them
abbrev pub EndsAfter : Answers → List Event → LoadState → LoadState → Type 0
EndsAfter May events w last = RunsTo May events w last × (has_ended last.stage ≡ true)

-- no run over events has ended, however places are answered
abbrev pub NeverEnds : Answers → List Event → LoadState → Type 0
NeverEnds May events w = (last : LoadState) → RunsTo May events w last → has_ended last.stage ≡ false

-- Events that end a load when a plan has no more: a step of the firmware and a piece as long as any transfer, in turn, so many of them.
abbrev pub whole_piece : Event
whole_piece = Device 0xFFFFFFFF

abbrev pub closing_events : ℕ → List Event
closing_events zero = []
closing_events (suc zero) = Firmware ∷ []
closing_events (suc (suc count)) = Firmware ∷ whole_piece ∷ closing_events count

-- What the other processors left at a place that held a byte: the byte of the last event that wrote it, where it isn't guarded.
abbrev pub left_by_others : ℕ → ℕ → List Event → ℕ → ℕ
left_by_others top held [] address = held
left_by_others top held (Other written byte ∷ events) address =
    left_by_others top (if written == address && not (is_guarded top address) then byte else held) events address
left_by_others top held (Device bytes ∷ events) address = left_by_others top held events address
left_by_others top held (Firmware ∷ events) address = left_by_others top held events address
left_by_others top held (Reset ∷ events) address = left_by_others top held events address

-- whether a reset is among events
abbrev pub has_reset : List Event → Bool
has_reset [] = false
has_reset (Reset ∷ events) = true
has_reset (Other written byte ∷ events) = has_reset events
has_reset (Device bytes ∷ events) = has_reset events
has_reset (Firmware ∷ events) = has_reset events
