-- What a load touches: the transfer in flight, at each stage of the firmware, and one event after another.
use Rattle.std.proofs.Common.{◌≡◌, ℕ, ◌+◌, ◌-◌, ◌*◌, ◌≤◌, inl, inr, true, List, [], ◌∷◌, ◌++◌, Option, Some, None, arith, refl, sym, subst}
use Rattle.vt_outside.specs.Placement.{Range}
use Rattle.cfg_directory.specs.declared.item.Item.{Item}
use Rattle.cfg_dma.specs.declared.transfer.Kind.TheVariants.{Read, Write}
use Rattle.cfg_dma.specs.declared.transfer.Finished.{Finished}
use Rattle.cfg_dma.specs.declared.transfer.Flight.{Flight}
use Rattle.cfg_dma.specs.Writes.{write_of}
use Rattle.cfg_dma.specs.Touching.{IsAmong, IsInDescriptor, IsMovedTo, MayTouch}
use Rattle.command_acts.specs.declared.placed.PlacedFile.{PlacedFile}
use Rattle.command_acts.specs.FilesInMemory.{placed_ranges}
use Rattle.command_acts.specs.Runs.{Answers}
use Rattle.command_acts.specs.Touching.{IsInOne}
use Rattle.command_acts.proofs.Touching.{in_last}
use Rattle.load_states.specs.declared.event.Event.{Event}
use Rattle.load_states.specs.declared.stage.Stage.{Stage}
use Rattle.load_states.specs.declared.stage.Stage.TheVariants.{Asks, Awaits, AtCommand, AwaitsSkip, AsksWrite, AwaitsWrite, Done, Refused}
use Rattle.load_states.specs.declared.reading.Reading.{Reading}
use Rattle.load_states.specs.declared.reading.Reading.TheVariants as read
use Rattle.load_states.specs.Guarded.{descriptor_at, buffer_at, buffer_size, is_work}
use Rattle.load_states.specs.LoadState.{LoadState, Opening}
use Rattle.load_states.specs.Steps.{asked}
use Rattle.load_states.specs.Kept.{KeepsNow, StageKeeps, Knows, read_by}
use Rattle.load_states.specs.Touching.{IsOwn, OneMayLeaveTouched, MayTouchOver}
use Rattle.load_states.proofs.Frames.{descriptor_is_work, buffer_is_work}

-- ---- the work range

-- an address of the descriptor
pub in_descriptor_is_work : (address : ℕ) → IsInDescriptor descriptor_at address → is_work address ≡ true
in_descriptor_is_work address within =
    let there : descriptor_at + (address - descriptor_at) ≡ address = omega (arith, within.0) in
    subst (λ (a : ℕ). is_work a ≡ true) there (descriptor_is_work (address - descriptor_at) (omega (arith, within.1)))

-- an address of the buffer
pub in_buffer_is_work : (count address : ℕ) → count ≤ buffer_size → IsAmong buffer_at count address → is_work address ≡ true
in_buffer_is_work count address few within =
    let there : buffer_at + (address - buffer_at) ≡ address = omega (arith, within.0) in
    subst (λ (a : ℕ). is_work a ≡ true) there (buffer_is_work (address - buffer_at) (omega (arith, within.1)))

-- ---- the transfer in flight

-- it touches what is the load's own alone
abbrev StaysOwn : List Range → Option Flight → Type 0
StaysOwn handed in_flight = (address : ℕ) → MayTouch in_flight address → IsOwn handed address

-- where no transfer is in flight nothing is touched
idle_own : (w : LoadState) (handed : List Range) → w.attached.device.flight ≡ None → StaysOwn handed w.attached.device.flight
idle_own w handed idle = subst (StaysOwn handed) (sym idle) (λ address none. absurd none)

-- a transfer with its descriptor in the work range, and which moves bytes only to what is the load's own
flight_own : (w : LoadState) (handed : List Range) (transfer : Finished) (moved : ℕ)
    → w.attached.device.flight ≡ Some (record { descriptor = descriptor_at; transfer = transfer; moved = moved })
    → ((address : ℕ) → IsMovedTo transfer address → IsOwn handed address) → StaysOwn handed w.attached.device.flight
flight_own w handed transfer moved is own =
    subst (StaysOwn handed) (sym is) (λ address touched. elim touched as (λ _. IsOwn handed address) [
      | inl within ↦ inl (in_descriptor_is_work address within)
      | inr to ↦ own address to
    ])

-- what a firmware reads goes to the buffer, or to the place of the last file that was placed
reading_own : (May : Answers) (items : List Item) (w : LoadState) (reading : Reading) (known : Knows May items w reading) (address : ℕ)
    → IsMovedTo (read_by May items w reading known).transfer address → IsOwn (placed_ranges w.placed) address
reading_own May items w read.Count known address to = inl (in_buffer_is_work 4 address (omega arith) to.1)
reading_own May items w (read.Entries size taken) known address to =
    inl (in_buffer_is_work (asked (size - buffer_size * known.pieces)) address (omega arith) to.1)
reading_own May items w (read.Commands select size taken) known address to =
    inl (in_buffer_is_work (asked (size - buffer_size * known.pieces)) address (omega arith) to.1)
reading_own May items w (read.File index) known address to =
    inr (subst (λ (placed : List PlacedFile). IsInOne (placed_ranges placed) address) (sym known.placed_are) (in_last known.before known.last address to.1))

-- a write is no read
no_read : (handed : List Range) (transfer : Finished) (address : ℕ) → transfer.kind ≡ Write → IsMovedTo transfer address → IsOwn handed address
no_read handed transfer address is to = let read : transfer.kind ≡ Read = to.0 in cc

-- at each stage
stage_own : (May : Answers) (items : List Item) (w : LoadState) (stage : Stage) → StageKeeps May items w stage
    → StaysOwn (placed_ranges w.placed) w.attached.device.flight
stage_own May items w (Asks reading) keeps = idle_own w (placed_ranges w.placed) keeps.1.1.idle.idle
stage_own May items w (Awaits reading) keeps = elim keeps.1 as (λ _. StaysOwn (placed_ranges w.placed) w.attached.device.flight) [
  | inl moving ↦
      flight_own w (placed_ranges w.placed) (read_by May items w reading keeps.0).transfer moving.moved moving.flight
      (reading_own May items w reading keeps.0)
  | inr over ↦ idle_own w (placed_ranges w.placed) over.idle
]
stage_own May items w (AtCommand index) keeps = idle_own w (placed_ranges w.placed) keeps.2.idle
stage_own May items w (AwaitsSkip index) keeps = idle_own w (placed_ranges w.placed) keeps.1.idle
stage_own May items w (AsksWrite index) keeps = idle_own w (placed_ranges w.placed) keeps.1.idle
stage_own May items w (AwaitsWrite index) keeps = elim keeps.2 as (λ _. StaysOwn (placed_ranges w.placed) w.attached.device.flight) [
  | inl writing ↦
      let transfer = write_of keeps.1.file.select keeps.1.dst_offset keeps.1.size buffer_at in
      flight_own w (placed_ranges w.placed) transfer writing.moved writing.flight (λ address. no_read (placed_ranges w.placed) transfer address refl)
  | inr written ↦ idle_own w (placed_ranges w.placed) written.idle
]
stage_own May items w Done keeps = idle_own w (placed_ranges w.placed) keeps.0.idle
stage_own May items w (Refused why) keeps = idle_own w (placed_ranges w.placed) keeps.idle

-- A load's transfer touches what is the load's own alone.
pub transfer_own : (May : Answers) (its : Opening) (w : LoadState) (address : ℕ) → KeepsNow May its w → MayTouch w.attached.device.flight address
    → IsOwn (placed_ranges w.placed) address
transfer_own May its w address kept touched = stage_own May its.items w w.stage kept.stage address touched

-- ---- events, one after the other

-- what is written by one of these events is written by one of these and others
pub by_first : (top : ℕ) (events more : List Event) (address : ℕ) → OneMayLeaveTouched top events address → OneMayLeaveTouched top (events ++ more) address
by_first top [] more address by = absurd by
by_first top (event ∷ events) more address by = elim by as (λ _. OneMayLeaveTouched top (event ∷ events ++ more) address) [
  | inl here ↦ inl here
  | inr later ↦ inr (by_first top events more address later)
]

pub by_later : (top : ℕ) (before events : List Event) (address : ℕ) → OneMayLeaveTouched top events address → OneMayLeaveTouched top (before ++ events) address
by_later top [] events address by = by
by_later top (event ∷ before) events address by = inr (by_later top before events address by)

-- what may be touched may be where more was handed out and written
pub over_more : (top : ℕ) (events more : List Event) (handed handed_more : List Range) (address : ℕ)
    → (IsInOne handed address → MayTouchOver top more handed_more address) → (OneMayLeaveTouched top events address → OneMayLeaveTouched top more address)
    → MayTouchOver top events handed address → MayTouchOver top more handed_more address
over_more top events more handed handed_more address wider later touched = elim touched as (λ _. MayTouchOver top more handed_more address) [
  | inl own ↦ elim own as (λ _. MayTouchOver top more handed_more address) [ inl work ↦ inl (inl work) | inr file ↦ wider file ]
  | inr by ↦ inr (later by)
]
