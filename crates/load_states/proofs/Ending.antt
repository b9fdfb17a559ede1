-- A load ends: how many steps of the firmware are left at each stage, and that a step takes one where no transfer is in flight.
use Rattle.std.proofs.Common.{◌≡◌, ℕ, ◌/◌, ◌<◌, ◌≤◌, ◌⊎◌, true, false, if◌then◌else◌, List, Option, Some, None}
use Rattle.std.proofs.Common.{inl, inr, arith, refl, sym, ap, subst, ◌∙◌}
use Rattle.std.specs.Prelude.{slice_get}
use Rattle.std.proofs.lemmas.Bool.{cases_Bool, cond-true, cond-false, eq-eqb, true≢false}
use Rattle.std.proofs.lemmas.Option.{none-some, slice_get_within}
use Rattle.zone_alloc.specs.declared.alloc.Request.{Request}
use Rattle.cfg_directory.specs.declared.item.Item.{Item}
use Rattle.cfg_directory.specs.declared.listed.Listed.{Listed}
use Rattle.loader_script.specs.declared.entry.Entry.{Entry}
use Rattle.loader_script.specs.declared.entry.Entry.TheVariants.{Allocate, AddPointer, AddChecksum, WritePointer, Misnamed, Skipped}
use Rattle.loader_script.specs.declared.refusing.Cause.{Cause}
use Rattle.loader_script.specs.Run.{cause_of}
use Rattle.vt_bytes.specs.Memory.{IsMemory}
use Rattle.cfg_dma.specs.Device.{IsDevice}
use Rattle.cfg_dma.specs.Reads.{IsAwaited, CanRead}
use Rattle.cfg_dma.specs.Writes.{IsWriteAwaited}
use Rattle.cfg_dma.proofs.WriteAwaited.{whole_write}
use Rattle.cfg_dma.specs.Transfers.{Attached, piece}
use Rattle.cfg_dma.specs.declared.transfer.Finished.{Finished}
use Rattle.cfg_dma.proofs.Awaited.{whole_piece, piece_idle}
use Rattle.cfg_dma.proofs.Started.{range_low}
use Rattle.command_acts.specs.Runs.{Answers}
use Rattle.load_states.specs.declared.event.Event.TheVariants.{Device, Firmware}
use Rattle.load_states.specs.declared.stage.Stage.{Stage}
use Rattle.load_states.specs.declared.stage.Stage.TheVariants.{Asks, Awaits, AtCommand, AwaitsSkip, AsksWrite, AwaitsWrite, Done, Refused}
use Rattle.load_states.specs.Guarded.{descriptor_at}
use Rattle.load_states.specs.Kept.{KeepsNow, StageKeeps, HasScript, LoadRead, IsAwaiting, IsPointing, read_by}
use Rattle.load_states.specs.Loads.{most_steps}
use Rattle.load_states.specs.Moves.{script_size}
use Rattle.load_states.specs.LoadState.{LoadState, Opening, memory_of, items_now, listed_named, progress_of}
use Rattle.load_states.specs.Runs.{StepsTo, has_ended, request_at}
use Rattle.load_states.specs.Steps.{is_over, taken_of, placed_at, skips, writes, passed, carried_out, commanded, at_command}
use Rattle.load_states.proofs.Readings.{steps_left, Goes, some_left, taken_goes, reading_most}
use Rattle.load_states.proofs.CommandMoves.{script_long}
use Rattle.load_states.proofs.Pointing.{pointer_fits}
use Rattle.load_states.proofs.Known.{can_read}
use Rattle.load_states.proofs.StepKeeps.{FirmwareTo}

-- What a step of the firmware comes to: it goes on, or the stage stays, and then a transfer is in flight or the load has ended.
abbrev Either : List Item → LoadState → LoadState → Type 0
Either items w next =
    Goes items w.stage next.stage ⊎ ((next.stage ≡ w.stage) × (w.attached.device.flight ≡ None → has_ended w.stage ≡ true))

-- it goes on to a stage
goes_to : (items : List Item) (w next : LoadState) (s after : Stage) → w.stage ≡ s → next.stage ≡ after → Goes items s after → Either items w next
goes_to items w next s after is next_is goes =
    inl (subst (λ (x : Stage). Goes items x next.stage) (sym is) (subst (λ (x : Stage). Goes items s x) (sym next_is) goes))

-- an awaited read of which none is in flight is over
seen_over : (r : LoadRead) (w : LoadState) → IsAwaiting w r → w.attached.device.flight ≡ None → is_over w ≡ true
seen_over r w awaited idle = elim awaited as (λ _. is_over w ≡ true) [
  | inl moving ↦ absurd (none-some _ (sym idle ∙ moving.flight))
  | inr over ↦ eq-eqb _ 0 over.control
]

-- so is an awaited write
seen_written : (items : List Item) (bytes : List ℕ) (before : List Finished) (transfer : Finished) (w : LoadState)
    → IsWriteAwaited items bytes before descriptor_at transfer w.attached → w.attached.device.flight ≡ None → is_over w ≡ true
seen_written items bytes before transfer w awaited idle = elim awaited as (λ _. is_over w ≡ true) [
  | inl writing ↦ absurd (none-some _ (sym idle ∙ writing.flight))
  | inr written ↦ eq-eqb _ 0 written.control
]

-- a look goes on where the transfer is over, as it is where none is in flight, and else waits
looks : (items : List Item) (w next after : LoadState) (s : Stage) → w.stage ≡ s → (w.attached.device.flight ≡ None → is_over w ≡ true)
    → next ≡ (if is_over w then after else w) → Goes items s after.stage → Either items w next
looks items w next after s is seen steps goes = elim (cases_Bool (is_over w)) as (λ _. Either items w next) [
  | inl over ↦ goes_to items w next s after.stage is (ap (λ (m : LoadState). m.stage) (steps ∙ cond-true (is_over w) after w over)) goes
  | inr waits ↦ inr (
    ap (λ (m : LoadState). m.stage) (steps ∙ cond-false (is_over w) after w waits),
    λ idle. absurd (true≢false (sym (seen idle) ∙ waits)),
  )
]

-- a file that is placed is awaited
placed_goes : (items : List Item) (index : ℕ) (name : List ℕ) (place : ℕ) (file : Option Listed) (w : LoadState) → index < script_size items / 128
    → Goes items (AtCommand index) (placed_at index name place file w).stage
placed_goes items index name place None w within = omega arith
placed_goes items index name place (Some file) w within = omega arith

-- so is a skip
skips_goes : (items : List Item) (index offset : ℕ) (file : Option Listed) (w : LoadState) → index < script_size items / 128
    → Goes items (AtCommand index) (skips index offset file w).stage
skips_goes items index offset None w within = omega arith
skips_goes items index offset (Some file) w within = omega arith

-- a command that isn't refused is carried out, and the firmware goes on
carried_goes : (items : List Item) (index : ℕ) (entry : Entry) (answer : Option ℕ) (w : LoadState) → index < script_size items / 128
    → Goes items (AtCommand index) (carried_out index entry answer w).stage
carried_goes items index (Allocate name align zone) None w within = omega arith
carried_goes items index (Allocate name align zone) (Some place) w within = placed_goes items index name place (listed_named w.listed name) w within
carried_goes items index (AddPointer dest src offset size) answer w within = omega arith
carried_goes items index (AddChecksum name offset start count) answer w within = omega arith
carried_goes items index (WritePointer dest src dst_offset src_offset size) answer w within =
    skips_goes items index dst_offset (listed_named w.listed dest) w within
carried_goes items index (Misnamed command) answer w within = omega arith
carried_goes items index (Skipped command) answer w within = omega arith

command_goes : (items : List Item) (index : ℕ) (entry : Entry) (cause : Option Cause) (answer : Option ℕ) (w : LoadState) → index < script_size items / 128
    → Goes items (AtCommand index) (commanded index entry cause answer w).stage
command_goes items index entry (Some cause) answer w within = omega arith
command_goes items index entry None answer w within = carried_goes items index entry answer w within

-- the command of an index, or the closing step
at_goes : (items : List Item) (index : ℕ) (found : Option Entry) (answer : Option ℕ) (w : LoadState)
    → ((entry : Entry) → found ≡ Some entry → index < script_size items / 128) → Goes items (AtCommand index) (at_command index found answer w).stage
at_goes items index None answer w within = omega arith
at_goes items index (Some entry) answer w within = command_goes items index entry (cause_of entry (progress_of w)) answer w (within entry refl)

-- a command that is there is below the script's length
there_below : (items : List Item) (w : LoadState) (index : ℕ) (entry : Entry) → HasScript items w → slice_get w.script index ≡ Some entry
    → index < script_size items / 128
there_below items w index entry has there =
    omega (arith, slice_get_within w.script index entry there, script_long items w.script has.script)

command_either : (May : Answers) (items : List Item) (w next : LoadState) (index : ℕ) (asks : Option Request) → w.stage ≡ AtCommand index → HasScript items w
    → FirmwareTo May (AtCommand index) asks w next → Either items w next
command_either May items w next index None is has steps =
    goes_to items w next (AtCommand index) _ is (ap (λ (m : LoadState). m.stage) steps)
    (at_goes items index (slice_get w.script index) None w (λ entry there. there_below items w index entry has there))
command_either May items w next index (Some request) is has steps =
    goes_to items w next (AtCommand index) _ is (ap (λ (m : LoadState). m.stage) steps.2)
    (at_goes items index (slice_get w.script index) steps.0 w (λ entry there. there_below items w index entry has there))

-- so is a WritePointer that is carried out
pointer_below : (May : Answers) (items before : List Item) (index : ℕ) (w : LoadState) → IsPointing May items before index w
    → index < script_size items / 128
pointer_below May items before index w known =
    there_below items w index (WritePointer known.dest known.src known.dst_offset known.src_offset known.size) known.script known.command

-- a step at each stage
either : (May : Answers) (items : List Item) (w next : LoadState) (s : Stage) → w.stage ≡ s → StageKeeps May items w s
    → FirmwareTo May s (request_at s w) w next → Either items w next
either May items w next (Asks reading) is keeps steps =
    goes_to items w next (Asks reading) (Awaits reading) is (ap (λ (m : LoadState). m.stage) steps) (some_left items reading)
either May items w next (Awaits reading) is keeps steps =
    looks items w next (taken_of reading w) (Awaits reading) is (seen_over (read_by May items w reading keeps.0) w keeps.1) steps
    (taken_goes May items w reading keeps.0)
either May items w next (AtCommand index) is keeps steps = command_either May items w next index (request_at (AtCommand index) w) is keeps.0 steps
either May items w next (AwaitsSkip index) is keeps steps =
    looks items w next (record w { stage = AsksWrite index }) (AwaitsSkip index) is (λ idle. eq-eqb _ 0 keeps.1.control) steps
    (let within = pointer_below May items (items_now w) index w keeps.0 in omega arith)
either May items w next (AsksWrite index) is keeps steps =
    let known = keeps.0 in
    goes_to items w next (AsksWrite index) (AwaitsWrite index) is
    (ap (λ (m : LoadState). m.stage) steps ∙ ap (λ (o : Option Entry). (writes index o w).stage) known.command)
    (let within = pointer_below May items (items_now w) index w known in omega arith)
either May items w next (AwaitsWrite index) is keeps steps =
    looks items w next (passed index w) (AwaitsWrite index) is (seen_written _ _ _ _ w keeps.2) steps
    (let within = pointer_below May items keeps.0 index w keeps.1 in omega arith)
either May items w next Done is keeps steps = inr (ap (λ (m : LoadState). m.stage) steps, λ idle. ap has_ended is)
either May items w next (Refused why) is keeps steps = inr (ap (λ (m : LoadState). m.stage) steps, λ idle. ap has_ended is)

-- A step of the firmware goes on where no transfer is in flight and the load hasn't ended, and never takes the firmware back.
pub step_goes : (May : Answers) (its : Opening) (w next : LoadState) → KeepsNow May its w → StepsTo May Firmware w next
    → w.attached.device.flight ≡ None → has_ended w.stage ≡ false → Goes its.items w.stage next.stage
step_goes May its w next kept steps idle running =
    elim (either May its.items w next w.stage refl kept.stage steps) as (λ _. Goes its.items w.stage next.stage) [
      | inl goes ↦ goes
      | inr stays ↦ absurd (true≢false (sym (stays.1 idle) ∙ running))
    ]

pub step_not_back : (May : Answers) (its : Opening) (w next : LoadState) → KeepsNow May its w → StepsTo May Firmware w next
    → steps_left its.items next.stage ≤ steps_left its.items w.stage
step_not_back May its w next kept steps =
    elim (either May its.items w next w.stage refl kept.stage steps) as (λ _. steps_left its.items next.stage ≤ steps_left its.items w.stage) [
      | inl goes ↦ omega (arith, goes)
      | inr stays ↦ subst (λ (s : Stage). steps_left its.items s ≤ steps_left its.items w.stage) (sym stays.0) (omega arith)
    ]

-- A load that awaits a read, which its device can carry out.
record Waits (top : ℕ) (w : LoadState) : Type 0 where
  of : LoadRead
  awaited : IsAwaiting w of
  can : 0 < of.transfer.length → CanRead (items_now w) top descriptor_at of.transfer

-- a read that is awaited is over behind a piece as long as any
read_ends : (top : ℕ) (a : Attached) (before : List Finished) (control : ℕ) (transfer : Finished) → a.memory.top ≡ top
    → IsDevice a.device → IsMemory a.memory → CanRead a.device.items top descriptor_at transfer
    → IsAwaited a.device.items before descriptor_at control transfer a → (piece 0xFFFFFFFF a).device.flight ≡ None
read_ends top a before control transfer its_top device memory can awaited =
    let here : CanRead a.device.items a.memory.top descriptor_at transfer =
    subst (λ t. CanRead a.device.items t descriptor_at transfer) (sym its_top) can in
    let low = range_low a.memory.top transfer.address transfer.length memory.top here.some here.ram in
    (whole_piece a before descriptor_at control 0xFFFFFFFF transfer device memory here awaited (omega (arith, low))).idle

-- where none is in flight a piece leaves none
idle_still : (a : Attached) → a.device.flight ≡ None → (piece 0xFFFFFFFF a).device.flight ≡ None
idle_still a idle = ap (λ (b : Attached). b.device.flight) (piece_idle 0xFFFFFFFF a idle) ∙ idle

-- such a read leaves none
waits_end : (top : ℕ) (w : LoadState) → (memory_of w).top ≡ top → IsDevice w.attached.device → IsMemory (memory_of w) → Waits top w
    → (piece 0xFFFFFFFF w.attached).device.flight ≡ None
waits_end top w its_top device memory waits = elim waits.awaited as (λ _. (piece 0xFFFFFFFF w.attached).device.flight ≡ None) [
  | inl moving ↦
      let left = moving.some_left in
      read_ends top w.attached waits.of.before waits.of.control waits.of.transfer its_top device memory (waits.can (omega (arith, left))) (inl moving)
  | inr over ↦ idle_still w.attached over.idle
]

-- none is in flight behind it, at each stage
whole_idles : (May : Answers) (its : Opening) (w : LoadState) (s : Stage) → KeepsNow May its w → StageKeeps May its.items w s →
    (piece 0xFFFFFFFF w.attached).device.flight ≡ None
whole_idles May its w (Asks reading) kept keeps = idle_still w.attached keeps.1.1.idle.idle
whole_idles May its w (Awaits reading) kept keeps =
    waits_end its.top w kept.top kept.device kept.memory (record {
      of = read_by May its.items w reading keeps.0;
      awaited = keeps.1;
      can = can_read May its w reading kept keeps.0;
    })
whole_idles May its w (AtCommand index) kept keeps = idle_still w.attached keeps.2.idle
whole_idles May its w (AwaitsSkip index) kept keeps = idle_still w.attached keeps.1.idle
whole_idles May its w (AsksWrite index) kept keeps = idle_still w.attached keeps.1.idle
whole_idles May its w (AwaitsWrite index) kept keeps =
    let few = pointer_fits May its.items keeps.0 index w keeps.1 in
    whole_write w.attached keeps.0 _ _ descriptor_at 0xFFFFFFFF _ refl (omega arith) keeps.2
whole_idles May its w Done kept keeps = idle_still w.attached keeps.0.idle
whole_idles May its w (Refused why) kept keeps = idle_still w.attached keeps.idle

-- A piece as long as any transfer leaves none in flight, and the stage as it was.
pub whole_piece_idle : (May : Answers) (its : Opening) (w next : LoadState) → KeepsNow May its w → StepsTo May (Device 0xFFFFFFFF) w next →
    (next.attached.device.flight ≡ None) × (next.stage ≡ w.stage)
whole_piece_idle May its w next kept steps = (
  subst (λ (m : LoadState). m.attached.device.flight ≡ None) (sym steps)
      (whole_idles May its w w.stage kept kept.stage),
  ap (λ (m : LoadState). m.stage) steps,
)

-- No stage has more of them left than the first.
pub steps_left_most : (items : List Item) (s : Stage) → steps_left items s ≤ most_steps items
steps_left_most items (Asks reading) = reading_most items reading
steps_left_most items (Awaits reading) = let most = reading_most items reading in omega arith
steps_left_most items (AtCommand index) = omega arith
steps_left_most items (AwaitsSkip index) = omega arith
steps_left_most items (AsksWrite index) = omega arith
steps_left_most items (AwaitsWrite index) = omega arith
steps_left_most items Done = omega arith
steps_left_most items (Refused why) = omega arith
