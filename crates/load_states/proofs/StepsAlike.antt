-- A step of a load is the same over another memory, where the load keeps what it has to over both.
use Rattle.std.proofs.Common.{◌≡◌, ℕ, ◌+◌, ◌<◌, ◌≤◌, ◌==◌, List, [], take, drop, Option, None, Some, inl, inr}
use Rattle.std.proofs.Common.{arith, refl, sym, ap, subst, ◌∙◌}
use Rattle.std.specs.Prelude.{slice_get}
use Rattle.std.specs.Option.{option_map_or}
use Rattle.std.proofs.lemmas.Option.{none-some, same_Some}
use Rattle.vt_bytes.specs.Memory.{Memory, bytes_at}
use Rattle.vt_bytes.proofs.Bytes.{part-bytes_at}
use Rattle.cfg_directory.specs.declared.item.Item.{Item}
use Rattle.cfg_directory.specs.Items.{IsItems}
use Rattle.cfg_directory.specs.Files.{files_of}
use Rattle.loader_script.specs.declared.entry.Entry.{Entry}
use Rattle.loader_script.specs.declared.entry.Entry.TheVariants.{Allocate, AddPointer, AddChecksum, WritePointer, Misnamed, Skipped}
use Rattle.loader_script.specs.declared.refusing.Cause.{Cause}
use Rattle.loader_script.specs.Run.{Progress, End, cause_of}
use Rattle.cfg_dma.specs.declared.transfer.Finished.{Finished}
use Rattle.cfg_dma.specs.declared.transfer.Flight.{Flight}
use Rattle.cfg_dma.specs.declared.transfer.Kind.TheVariants.{Read, Write}
use Rattle.cfg_dma.specs.Device.{DeviceState}
use Rattle.cfg_dma.specs.Transfers.{attached, piece}
use Rattle.cfg_dma.specs.Reads.{IsAwaited}
use Rattle.cfg_dma.specs.Writes.{IsWriteAwaited}
use Rattle.command_acts.specs.Runs.{Answers, request_by}
use Rattle.load_states.specs.declared.event.Event.{Event}
use Rattle.load_states.specs.declared.event.Event.TheVariants.{Device, Firmware, Other, Reset}
use Rattle.load_states.specs.declared.stage.Stage.{Stage}
use Rattle.load_states.specs.declared.reading.Reading.{Reading}
use Rattle.load_states.specs.declared.reading.Reading.TheVariants as read
use Rattle.load_states.specs.declared.stage.Stage.TheVariants.{Asks, Awaits, AtCommand, AwaitsSkip, AsksWrite, AwaitsWrite, Done, Refused}
use Rattle.load_states.specs.Guarded.{descriptor_at}
use Rattle.load_states.specs.LoadState.{LoadState, Opening, memory_of, with_memory, items_now, progress_of}
use Rattle.load_states.specs.Steps.{step, firmware_step, at_command, commanded, is_over, passed, number_for}
use Rattle.load_states.specs.Kept.{KeepsNow, StageKeeps, Knows, HasCarriedOut, read_by}
use Rattle.load_states.specs.Runs.{request_at, request_of}
use Rattle.load_states.proofs.DevicesAlike.{HoldOneNumber, one_piece}
use Rattle.load_states.proofs.LooksAlike.{write_tells}
use Rattle.load_states.specs.Pieces.{SameButMemory}
use Rattle.load_states.proofs.StartsAlike.{AreMemories}
use Rattle.load_states.proofs.StartsAlike.{asks_alike, commands_alike, writes_alike}
use Rattle.load_states.proofs.TakenAlike.{looks_alike, tests_alike}

-- what a load keeps over its own memory, and over another one
pub record KeepsOverBoth (May More : Answers) (its : Opening) (w : LoadState) (n : Memory) : Type 0 where
  pub here : KeepsNow May its w
  pub there : KeepsNow More its (with_memory w n)

-- ---- a piece

-- where none is in flight none is a write
idle_holds : (d : DeviceState) (m n : Memory) → d.flight ≡ None → HoldOneNumber d m n
idle_holds d m n idle = record { bytes = λ f is writes count few. absurd (none-some f (sym idle ∙ is)) }

-- a transfer that is read is no write
reads : (May : Answers) (items : List Item) (w : LoadState) (reading : Reading) (known : Knows May items w reading)
    → (read_by May items w reading known).transfer.kind ≡ Read
reads May items w read.Count known = refl
reads May items w (read.Entries size taken) known = refl
reads May items w (read.Commands select size taken) known = refl
reads May items w (read.File index) known = refl

not_both : (f : Flight) (transfer : Finished) → f.transfer ≡ transfer → transfer.kind ≡ Read → f.transfer.kind ≡ Write → ⊥
not_both f transfer is reads writes = let same : Read ≡ Write = sym reads ∙ ap (λ (t : Finished). t.kind) (sym is) ∙ writes in cc

read_holds : (items : List Item) (before : List Finished) (descriptor control : ℕ) (transfer : Finished) (d : DeviceState) (m n : Memory)
    → transfer.kind ≡ Read → IsAwaited items before descriptor control transfer (attached d m) → HoldOneNumber d m n
read_holds items before descriptor control transfer d m n reads awaited = elim awaited as (λ _. HoldOneNumber d m n) [
  | inl moving ↦ record {
    bytes = λ f is writes count few.
        absurd (not_both f transfer (ap (λ (g : Flight). g.transfer)
        (same_Some f (record { descriptor = descriptor; transfer = transfer; moved = moving.moved }) (sym is ∙ moving.flight))) reads writes);
  }
  | inr over ↦ idle_holds d m n over.idle
]

-- the number that a command of a script writes
abbrev written_by : Option Entry → LoadState → List ℕ
written_by (Some (WritePointer dest src dst_offset src_offset size)) w = number_for w src src_offset size
written_by (Some (Allocate name align zone)) w = []
written_by (Some (AddPointer dest src offset size)) w = []
written_by (Some (AddChecksum name offset start count)) w = []
written_by (Some (Misnamed command)) w = []
written_by (Some (Skipped command)) w = []
written_by None w = []

-- bytes of a range that both hold
part_same : (m n : Memory) (a size moved count : ℕ) → bytes_at n a size ≡ bytes_at m a size → moved + count ≤ size
    → bytes_at n (a + moved) count ≡ bytes_at m (a + moved) count
part_same m n a size moved count same within =
    sym (part-bytes_at n a size moved count within) ∙ ap (λ bytes. take count (drop moved bytes)) same ∙ part-bytes_at m a size moved count within

-- what a write in flight writes
abbrev Still : Memory → Flight → List ℕ → Type 0
Still m f number = (bytes_at m f.transfer.address f.transfer.length ≡ number) × (f.moved < f.transfer.length)

write_still : (items : List Item) (bytes : List ℕ) (before : List Finished) (descriptor : ℕ) (transfer : Finished) (d : DeviceState) (m : Memory)
    → IsWriteAwaited items bytes before descriptor transfer (attached d m) → (f : Flight) → d.flight ≡ Some f → Still m f bytes
write_still items bytes before descriptor transfer d m awaited f is = elim awaited as (λ _. Still m f bytes) [
  | inl writing ↦
      subst (λ g. Still m g bytes) (sym (same_Some f (record { descriptor = descriptor; transfer = transfer; moved = writing.moved })
      (sym is ∙ writing.flight)))
      (writing.still, writing.some_left)
  | inr written ↦ absurd (none-some f (sym written.idle ∙ is))
]

write_holds : (May More : Answers) (items : List Item) (index : ℕ) (w : LoadState) (n : Memory) → StageKeeps May items w (AwaitsWrite index)
    → StageKeeps More items (with_memory w n) (AwaitsWrite index) → HoldOneNumber w.attached.device (memory_of w) n
write_holds May More items index w n here there =
    let d = w.attached.device in
    let other : LoadState = with_memory w n in
    let known = here.1 in
    let also = there.1 in
    let number = number_for w known.src known.src_offset known.size in
    let its = number_for other also.src also.src_offset also.size in
    let same : its ≡ number =
    ap (λ (found : Option Entry). written_by found w) (sym also.command ∙ known.command) in
    record {
      bytes = λ f is writes count few.
          let held = write_still here.0 number _ descriptor_at _ d (memory_of w) here.2 f is in
          let past = write_still there.0 its _ descriptor_at _ d n there.2 f is in
          part_same (memory_of w) n f.transfer.address f.transfer.length f.moved count (past.0 ∙ same ∙ sym held.0)
          (let left = held.1 in omega (arith, left, few));
    }

-- at each stage
stage_holds : (May More : Answers) (items : List Item) (w : LoadState) (n : Memory) (s : Stage) → StageKeeps May items w s
    → StageKeeps More items (with_memory w n) s → HoldOneNumber w.attached.device (memory_of w) n
stage_holds May More items w n (Asks reading) here there = idle_holds w.attached.device (memory_of w) n here.1.1.idle.idle
stage_holds May More items w n (Awaits reading) here there =
    let r = read_by May items w reading here.0 in
    read_holds (items_now w) r.before descriptor_at r.control r.transfer w.attached.device (memory_of w) n (reads May items w reading here.0) here.1
stage_holds May More items w n (AtCommand index) here there = idle_holds w.attached.device (memory_of w) n here.2.idle
stage_holds May More items w n (AwaitsSkip index) here there = idle_holds w.attached.device (memory_of w) n here.1.idle
stage_holds May More items w n (AsksWrite index) here there = idle_holds w.attached.device (memory_of w) n here.1.idle
stage_holds May More items w n (AwaitsWrite index) here there = write_holds May More items index w n here there
stage_holds May More items w n Done here there = idle_holds w.attached.device (memory_of w) n here.0.idle
stage_holds May More items w n (Refused why) here there = idle_holds w.attached.device (memory_of w) n here.idle

-- ---- a command

-- how far the run is is told by the places
progress_same : (May More : Answers) (items : List Item) (index : ℕ) (w : LoadState) (n : Memory)
    → HasCarriedOut May items index (progress_of w) w → HasCarriedOut More items index (progress_of (with_memory w n)) (with_memory w n)
    → progress_of (with_memory w n) ≡ progress_of w
progress_same May More items index w n here there = ap (λ (e : End × Progress). e.1) (sym there.ends ∙ here.ends)

at_alike : (index : ℕ) (found : Option Entry) (answer : Option ℕ) (w : LoadState) (n : Memory) → AreMemories (memory_of w) n
    → progress_of (with_memory w n) ≡ progress_of w
    → SameButMemory (at_command index found answer w) (at_command index found answer (with_memory w n))
at_alike index None answer w n are same = refl
at_alike index (Some entry) answer w n are same =
    subst (λ p. SameButMemory (at_command index (Some entry) answer w) (commanded index entry (cause_of entry p) answer (with_memory w n))) (sym same)
    (commands_alike index entry (cause_of entry (progress_of w)) answer w n are)

-- ---- a step of the firmware

firmware_alike : (May More : Answers) (items : List Item) (w : LoadState) (n : Memory) (s : Stage) (answer : Option ℕ) → IsItems items
    → IsItems (items_now w) → AreMemories (memory_of w) n → StageKeeps May items w s → StageKeeps More items (with_memory w n) s
    → SameButMemory (firmware_step s answer w) (firmware_step s answer (with_memory w n))
firmware_alike May More items w n (Asks reading) answer lawful now are here there = asks_alike reading w n are
firmware_alike May More items w n (Awaits reading) answer lawful now are here there = looks_alike May More items w n reading lawful now here there
firmware_alike May More items w n (AtCommand index) answer lawful now are here there =
    at_alike index (slice_get w.script index) answer w n are (progress_same May More items index w n here.3 there.3)
firmware_alike May More items w n (AwaitsSkip index) answer lawful now are here there =
    let other : LoadState = with_memory w n in
    let same : is_over other ≡ is_over w = ap (λ word. word == 0) (there.1.control ∙ sym here.1.control) in
    tests_alike (is_over w) (is_over other) (record w { stage = AsksWrite index }) w (record other { stage = AsksWrite index }) other same
    (λ zero. refl) (λ still. refl)
firmware_alike May More items w n (AsksWrite index) answer lawful now are here there = writes_alike index (slice_get w.script index) w n are
firmware_alike May More items w n (AwaitsWrite index) answer lawful now are here there =
    let other : LoadState = with_memory w n in
    let same : is_over other ≡ is_over w =
    write_tells there.0 _ _ descriptor_at _ other.attached there.2 ∙ sym (write_tells here.0 _ _ descriptor_at _ w.attached here.2) in
    tests_alike (is_over w) (is_over other) (passed index w) w (passed index other) other same (λ zero. refl) (λ still. refl)
firmware_alike May More items w n Done answer lawful now are here there = refl
firmware_alike May More items w n (Refused why) answer lawful now are here there = refl

-- ---- a step

-- Each step leads to the same, but for memory.
pub step_alike : (May More : Answers) (its : Opening) (event : Event) (answer : Option ℕ) (w : LoadState) (n : Memory)
    → KeepsOverBoth May More its w n → SameButMemory (step event answer w) (step event answer (with_memory w n))
step_alike May More its (Device bytes) answer w n both =
    ap (λ d. record w { attached = attached d (piece bytes (attached w.attached.device n)).memory })
    (one_piece bytes w.attached.device (memory_of w) n (stage_holds May More its.items w n w.stage both.here.stage both.there.stage))
step_alike May More its Firmware answer w n both =
    firmware_alike May More its.items w n w.stage answer both.here.lawful both.here.device.items
    (record { here = both.here.memory; there = both.there.memory; top = both.there.top ∙ sym both.here.top }) both.here.stage both.there.stage
step_alike May More its (Other address byte) answer w n both = refl
step_alike May More its Reset answer w n both = refl

-- and asks for the same
same_request : (May More : Answers) (items : List Item) (w : LoadState) (n : Memory) (s : Stage) → StageKeeps May items w s
    → StageKeeps More items (with_memory w n) s → request_at s (with_memory w n) ≡ request_at s w
same_request May More items w n (Asks reading) here there = refl
same_request May More items w n (Awaits reading) here there = refl
same_request May More items w n (AtCommand index) here there =
    ap (λ (p : Progress). option_map_or
    (λ (entry : Entry). option_map_or (λ (cause : Cause). None) (cause_of entry p) (request_by (files_of (items_now w)) entry))
    (slice_get w.script index) None) (progress_same May More items index w n here.3 there.3)
same_request May More items w n (AwaitsSkip index) here there = refl
same_request May More items w n (AsksWrite index) here there = refl
same_request May More items w n (AwaitsWrite index) here there = refl
same_request May More items w n Done here there = refl
same_request May More items w n (Refused why) here there = refl

pub request_alike : (May More : Answers) (its : Opening) (event : Event) (w : LoadState) (n : Memory) → KeepsOverBoth May More its w n
    → request_of event (with_memory w n) ≡ request_of event w
request_alike May More its (Device bytes) w n both = refl
request_alike May More its Firmware w n both = same_request May More its.items w n w.stage both.here.stage both.there.stage
request_alike May More its (Other address byte) w n both = refl
request_alike May More its Reset w n both = refl
