-- A write of another processor keeps what the load keeps.
use Rattle.std.proofs.Common.{◌≡◌, ◌≢◌, ℕ, ◌+◌, ◌<◌, ◌≤◌, ◌⊎◌, inl, inr, Bool, true, false, List, [], ◌∷◌, ◌++◌, ◌==◌, ◌&&◌, not}
use Rattle.std.proofs.Common.{if◌then◌else◌, Result, Ok, Err, arith, refl, sym, ap, ap₂, subst, ◌∙◌}
use Rattle.std.specs.Prelude.{nat_lt, nat_le, IfOk}
use Rattle.std.specs.List.{AllByRecursion}
use Rattle.std.proofs.lemmas.Bool.{cases_lt, cases_eq, cond-true, cond-false, and_parts, and_cases, and_left, and_right, and_from}
use Rattle.std.proofs.lemmas.Bool.{both_ways, eq-eqb, ne_eqb, not_from_true, or_cases, ltb-true}
use Rattle.vt_bytes.specs.Memory.{Memory, IsMemory, IsRam, IsRamRange, at, is_ram, with_bytes}
use Rattle.vt_bytes.proofs.Memories.{byte_with, others_with, lawful_with}
use Rattle.vt_bytes.proofs.Seen.{ram_tested}
use Rattle.vt_bytes.specs.Numbers.{be}
use Rattle.vt_bytes.proofs.Bytes.{bytes_at-same}
use Rattle.cfg_directory.specs.declared.item.Item.{Item}
use Rattle.loader_script.specs.Run.{Placed, End, opening}
use Rattle.cfg_directory.specs.Files.{files_of}
use Rattle.cfg_dma.proofs.Awaited.{awaited_same}
use Rattle.cfg_dma.proofs.WriteAwaited.{write_awaited_same}
use Rattle.command_acts.specs.declared.fault.LoadFault.{LoadFault}
use Rattle.command_acts.specs.declared.placed.PlacedFile.{PlacedFile}
use Rattle.command_acts.specs.FilesInMemory.{files_in, ArePlaced}
use Rattle.command_acts.specs.Runs.{Answers, EndsWith, at_files, result_of}
use Rattle.command_acts.specs.Script.{script_in}
use Rattle.load_states.specs.declared.event.Event.{Event}
use Rattle.load_states.specs.declared.event.Event.TheVariants.{Other}
use Rattle.load_states.specs.declared.stage.Stage.{Stage}
use Rattle.load_states.specs.declared.stage.Stage.TheVariants.{Asks, Awaits, AtCommand, AwaitsSkip, AsksWrite, AwaitsWrite, Done, Refused}
use Rattle.load_states.specs.Guarded.{descriptor_at, buffer_at, is_work, is_guarded, written_by_other}
use Rattle.load_states.specs.LoadState.{LoadState, Opening, memory_of, with_memory, items_now}
use Rattle.load_states.specs.Kept.{IsKept, KeepsNow, StageKeeps, IsNext, IsAwaiting, IsCleared, HasCarriedOut, HasSkipped, HasEnded, read_by}
use Rattle.load_states.proofs.LeftByOthers.{left_more, told_before}
use Rattle.load_states.proofs.Frames.{descriptor_is_work, buffer_is_work, work_is_guarded, files_same}
use Rattle.load_states.proofs.Pointing.{pointing_still, pointer_fits}
use Rattle.load_states.proofs.Looks.{by_test}
use Rattle.load_states.proofs.Known.{FrontStays, known_still, front_outside, read_guarded}
use Rattle.load_states.proofs.Taken.{script_still}
use Rattle.load_states.proofs.Zoned.{IsZoned, bios_guarded, bios_ram, zoned_files}

-- ---- the byte that is written

-- whether a write of another processor is carried out
abbrev is_carried_out : ℕ → ℕ → Bool
is_carried_out top address = is_ram top address && not (is_guarded top address)

-- a place that isn't written holds what it held
not_there : (m : Memory) (written byte address : ℕ) → written ≢ address
    → (if written == address && not (is_guarded m.top address) then byte else at m address) ≡ at m address
not_there m written byte address other =
    cond-false (written == address && not (is_guarded m.top address)) byte (at m address)
    (and_left (written == address) (not (is_guarded m.top address)) (ne_eqb written address other))

-- a write that is carried out changes its byte alone
byte_changed : (m : Memory) (written byte address : ℕ) → IsMemory m → IsRam m.top address → is_carried_out m.top written ≡ true
    → at (with_bytes m written (byte ∷ [])) address ≡ (if written == address && not (is_guarded m.top address) then byte else at m address)
byte_changed m written byte address memory ram carried =
    let after = with_bytes m written (byte ∷ []) in
    let free = and_parts (is_ram m.top written) (not (is_guarded m.top written)) carried in
    let test = written == address && not (is_guarded m.top address) in
    elim (cases_eq written address) as (λ _. at after address ≡ (if test then byte else at m address)) [
      | inl same ↦
          let writable : IsRamRange m.top written 1 = λ i below. let here : address ≡ written + i = omega arith in subst (IsRam m.top) here ram in
          let first : address ≡ written + 0 = omega arith in
          ap (at after) first ∙ byte_with m written (byte ∷ []) 0 memory writable (omega arith)
          ∙ sym (cond-true test byte (at m address) (and_from (written == address) (not (is_guarded m.top address)) (eq-eqb written address same)
          (subst (λ a. not (is_guarded m.top a) ≡ true) same free.1)))
      | inr other ↦
          let apart : (address < written) ⊎ (written + 1 ≤ address) =
          elim (cases_lt address written) as (λ _. (address < written) ⊎ (written + 1 ≤ address)) [
            | inl below ↦ inl below
            | inr from ↦ inr (omega arith)
          ] in
          others_with m written (byte ∷ []) address memory apart ∙ sym (not_there m written byte address other)
    ]

-- a write that isn't changes no byte that is RAM
byte_refused : (m : Memory) (written byte address : ℕ) → IsRam m.top address → is_carried_out m.top written ≡ false
    → at m address ≡ (if written == address && not (is_guarded m.top address) then byte else at m address)
byte_refused m written byte address ram refused =
    let test = written == address && not (is_guarded m.top address) in
    elim (cases_eq written address) as (λ _. at m address ≡ (if test then byte else at m address)) [
      | inl same ↦
          elim (and_cases (is_ram m.top written) (not (is_guarded m.top written)) refused)
          as (λ _. at m address ≡ (if test then byte else at m address)) [
            | inl none ↦ absurd (both_ways (is_ram m.top written) none (ram_tested m.top written (subst (IsRam m.top) (sym same) ram)))
            | inr guarded ↦
                sym (cond-false test byte (at m address) (and_right (written == address) (not (is_guarded m.top address))
                (subst (λ a. not (is_guarded m.top a) ≡ false) same guarded)))
          ]
      | inr other ↦ sym (not_there m written byte address other)
    ]

-- What a place that is RAM holds after a write of another processor: the byte, if it was written there and the place isn't guarded.
at_other : (m : Memory) (written byte address : ℕ) → IsMemory m → IsRam m.top address
    → at (written_by_other written byte m) address ≡ (if written == address && not (is_guarded m.top address) then byte else at m address)
at_other m written byte address memory ram =
    by_test (λ (n : Memory). at n address ≡ (if written == address && not (is_guarded m.top address) then byte else at m address))
    (is_carried_out m.top written) (with_bytes m written (byte ∷ [])) m (byte_changed m written byte address memory ram)
    (byte_refused m written byte address ram)

-- guarded places hold the same
abbrev GuardedStay : ℕ → Memory → Memory → Type 0
GuardedStay top before after = (address : ℕ) → IsRam top address → is_guarded top address ≡ true → at after address ≡ at before address

-- no processor writes what is guarded
guarded_stay : (m : Memory) (written byte : ℕ) → IsMemory m → GuardedStay m.top m (written_by_other written byte m)
guarded_stay m written byte memory address ram guarded =
    at_other m written byte address memory ram
    ∙ cond-false (written == address && not (is_guarded m.top address)) byte (at m address)
    (and_right (written == address) (not (is_guarded m.top address)) (not_from_true (is_guarded m.top address) guarded))

-- a memory has the top and the fill byte of another
record KeepsTopAndFill (before after : Memory) : Type 0 where
  top : after.top ≡ before.top
  fill : after.fill ≡ before.fill

-- and what a processor leaves is a memory still
other_lawful : (m : Memory) (written byte : ℕ) → IsMemory m
    → IsMemory (written_by_other written byte m) × KeepsTopAndFill m (written_by_other written byte m)
other_lawful m written byte memory =
    by_test (λ (n : Memory). IsMemory n × KeepsTopAndFill m n) (is_carried_out m.top written) (with_bytes m written (byte ∷ [])) m
    (λ _. (lawful_with m written (byte ∷ []) memory, record { top = refl; fill = refl }))
    (λ _. (memory, record { top = refl; fill = refl }))

-- ---- where guarded places stay

-- a low address is RAM
low_is_ram : (top address end : ℕ) → end ≤ 0xA0000 → address < end → IsRam top address
low_is_ram top address end low below = inl (omega arith, omega arith)

-- the work range is RAM
work_is_ram : (top address : ℕ) → is_work address ≡ true → IsRam top address
work_is_ram top address is =
    elim (or_cases (nat_le descriptor_at address && nat_lt address 0x7010) (nat_le buffer_at address && nat_lt address 0x9000) is)
    as (λ _. IsRam top address) [
      | inl word ↦ low_is_ram top address 0x7010 (omega arith)
          (ltb-true address 0x7010 (and_parts (nat_le descriptor_at address) (nat_lt address 0x7010) word).1)
      | inr buffer ↦ low_is_ram top address 0x9000 (omega arith)
          (ltb-true address 0x9000 (and_parts (nat_le buffer_at address) (nat_lt address 0x9000) buffer).1)
    ]

-- so the work range stays
work_stays : (top : ℕ) (before after : Memory) (address : ℕ) → GuardedStay top before after → is_work address ≡ true
    → at after address ≡ at before address
work_stays top before after address stay is = stay address (work_is_ram top address is) (work_is_guarded top address is)

-- placed files hold what they held
files_stay : (top : ℕ) (before after : Memory) (placed : List PlacedFile) → before.top ≡ top → ArePlaced top placed
    → AllByRecursion (IsZoned top) placed → GuardedStay top before after → files_in after placed ≡ files_in before placed
files_stay top before after placed its_top apart zoned stay =
    files_same top before after placed its_top apart zoned (λ address ram guarded other. stay address ram guarded)

-- so do those before the last
front_stays : (top : ℕ) (w : LoadState) (m : Memory) → (memory_of w).top ≡ top → ArePlaced top w.placed → AllByRecursion (IsZoned top) w.placed
    → GuardedStay top (memory_of w) m → FrontStays w m
front_stays top w m its_top apart zoned stay = front_outside top w m its_top apart zoned (λ address ram guarded other. stay address ram guarded)

-- ---- what holds at a stage

-- a load that has ended has ended so
ended_same : (May : Answers) (items : List Item) (answer : Result (Unit {0}) LoadFault) (w : LoadState) (m : Memory)
    → files_in m w.placed ≡ files_in (memory_of w) w.placed → HasEnded May items answer w → HasEnded May items answer (with_memory w m)
ended_same May items answer w m same ended = record {
  idle = ended.idle;
  unread = ended.unread;
  ran = subst (λ (files : List Placed). IfOk (script_in items) (λ script.
      (end : End) × EndsWith May 0 script (opening (files_of items) []) end (at_files (files_of (items_now w)) files []) × (answer ≡ result_of end)))
      (sym same) ended.ran;
}

-- the work range holds the fill byte still
cleared_same : (top : ℕ) (before after : Memory) → after.fill ≡ before.fill → GuardedStay top before after → IsCleared before → IsCleared after
cleared_same top before after fill stay cleared address is = work_stays top before after address stay is ∙ cleared address is ∙ sym fill

-- a skip that is over is so still
skipped_same : (May : Answers) (items : List Item) (top index : ℕ) (w : LoadState) (m : Memory) (stage : Stage) → ArePlaced top w.placed
    → AllByRecursion (IsZoned top) w.placed → GuardedStay top (memory_of w) m → (memory_of w).top ≡ top → HasSkipped May items index w
    → HasSkipped May items index (record (with_memory w m) { stage = stage })
skipped_same May items top index w m stage apart zoned stay its_top skipped =
    let over = skipped.1 in (
      pointing_still May items (items_now w) index w (record w.attached { memory = m }) stage
          (files_stay top (memory_of w) m w.placed its_top apart zoned stay) skipped.0,
      record {
        idle = over.idle;
        control = ap be (bytes_at-same m (memory_of w) descriptor_at 4
            (λ i few. work_stays top (memory_of w) m (descriptor_at + i) stay (descriptor_is_work i (omega arith)))) ∙ over.control;
        selected = over.selected;
        offset = over.offset;
        finished = over.finished;
      },
    )

-- What holds at a stage holds over a memory with the same bytes at the places that are guarded.
stage_same : (May : Answers) (items : List Item) (top : ℕ) (w : LoadState) (m : Memory) (stage : Stage) → (memory_of w).top ≡ top
    → KeepsTopAndFill (memory_of w) m → ArePlaced top w.placed → AllByRecursion (IsZoned top) w.placed → GuardedStay top (memory_of w) m
    → StageKeeps May items w stage → StageKeeps May items (with_memory w m) stage
stage_same May items top w m (Asks reading) its_top keeps_top apart zoned stay keeps =
    let next = keeps.1.1 in
    let still = known_still May items w (record w.attached { memory = m }) w.stage reading refl (front_stays top w m its_top apart zoned stay) keeps.1.0 in (
      keeps.0,
      (
        still.known,
        subst (IsNext (with_memory w m)) (sym still.same)
            (record { idle = record { idle = next.idle.idle; finished = next.idle.finished }; asks = next.asks }),
      ),
    )
stage_same May items top w m (Awaits reading) its_top keeps_top apart zoned stay keeps =
    let known = keeps.0 in
    let r = read_by May items w reading known in
    let still = known_still May items w (record w.attached { memory = m }) w.stage reading refl (front_stays top w m its_top apart zoned stay) known in (
      still.known,
      subst (IsAwaiting (with_memory w m)) (sym still.same)
          (awaited_same (items_now w) r.before descriptor_at r.control r.transfer w.attached m keeps.1 keeps_top.top
          (λ i within. work_stays top (memory_of w) m (descriptor_at + i) stay (descriptor_is_work i within))
          (λ i within.
          let there = read_guarded May items top w reading apart zoned known i within in stay (r.transfer.address + i) there.0 there.1)),
    )
stage_same May items top w m (AtCommand index) its_top keeps_top apart zoned stay keeps = (
  script_still items w (record w.attached { memory = m }) w.stage keeps.0,
  keeps.1,
  record { idle = keeps.2.idle; finished = keeps.2.finished },
  subst (λ (files : List Placed). HasCarriedOut May items index (at_files (files_of (items_now w)) files []) w)
      (sym (files_stay top (memory_of w) m w.placed its_top apart zoned stay)) keeps.3,
)
stage_same May items top w m (AwaitsSkip index) its_top keeps_top apart zoned stay keeps =
    skipped_same May items top index w m w.stage apart zoned stay its_top keeps
stage_same May items top w m (AsksWrite index) its_top keeps_top apart zoned stay keeps =
    skipped_same May items top index w m w.stage apart zoned stay its_top keeps
stage_same May items top w m (AwaitsWrite index) its_top keeps_top apart zoned stay keeps =
    let known = keeps.1 in
    let fits = pointer_fits May items keeps.0 index w known in (
      keeps.0,
      pointing_still May items keeps.0 index w (record w.attached { memory = m }) w.stage
          (files_stay top (memory_of w) m w.placed its_top apart zoned stay) known,
      write_awaited_same keeps.0 _ _ descriptor_at _ w.attached m keeps.2
          (λ i within. work_stays top (memory_of w) m (descriptor_at + i) stay (descriptor_is_work i within))
          (λ i within. work_stays top (memory_of w) m (buffer_at + i) stay (buffer_is_work i (omega (arith, fits)))),
    )
stage_same May items top w m Done its_top keeps_top apart zoned stay keeps = (
  ended_same May items (Ok tt) w m (files_stay top (memory_of w) m w.placed its_top apart zoned stay) keeps.0,
  keeps.1,
  cleared_same top (memory_of w) m keeps_top.fill stay keeps.2,
)
stage_same May items top w m (Refused why) its_top keeps_top apart zoned stay keeps =
    ended_same May items (Err why) w m (files_stay top (memory_of w) m w.placed its_top apart zoned stay) keeps

-- ---- the event

-- A write of another processor keeps what the load keeps at each moment.
pub other_keeps_now : (May : Answers) (its : Opening) (w : LoadState) (address byte : ℕ) → KeepsNow May its w → KeepsNow May its
    (with_memory w (written_by_other address byte (memory_of w)))
other_keeps_now May its w address byte kept =
    let m = memory_of w in
    let after = written_by_other address byte m in
    let lawful = other_lawful m address byte kept.memory in
    let stay : GuardedStay its.top m after = subst (λ t. GuardedStay t m after) kept.top (guarded_stay m address byte kept.memory) in
    record {
      lawful = kept.lawful;
      names = kept.names;
      opening = kept.opening;
      shape = kept.shape;
      device = kept.device;
      room = kept.room;
      stands = kept.stands;
      memory = lawful.0;
      top = lawful.1.top ∙ kept.top;
      fill = lawful.1.fill ∙ kept.fill;
      loading = kept.loading;
      zones = kept.zones;
      count = kept.count;
      bios = λ place from below beside.
          stay place (bios_ram its.top place from below) (bios_guarded its.top place from below) ∙ kept.bios place from below beside;
      stage = stage_same May its.items its.top w after w.stage kept.top lawful.1 kept.loading.apart (zoned_files kept) stay kept.stage;
    }

-- And over events.
pub other_keeps : (May : Answers) (its : Opening) (events : List Event) (w : LoadState) (address byte : ℕ) → IsKept May its events w → IsKept May its
    (events ++ Other address byte ∷ []) (with_memory w (written_by_other address byte (memory_of w)))
other_keeps May its events w address byte kept = record {
  now = other_keeps_now May its w address byte kept.now;
  others = λ place ram other beside told.
      at_other (memory_of w) address byte place kept.now.memory (subst (λ t. IsRam t place) (sym kept.now.top) ram)
      ∙ ap₂ (λ t held. if address == place && not (is_guarded t place) then byte else held) kept.now.top
      (kept.others place ram other beside (told_before its.top events (Other address byte ∷ []) place refl told))
      ∙ sym (left_more its.top its.fill events (Other address byte ∷ []) place);
}
