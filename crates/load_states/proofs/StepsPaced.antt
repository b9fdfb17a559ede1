-- An event leads from one pace of a load to the next, whatever places its files were given.
use Rattle.std.proofs.Common.{◌≡◌, ℕ, suc, ◌+◌, ◌-◌, ◌*◌, ◌/◌, ◌<◌, ◌==◌, Bool, true, false, if◌then◌else◌, List, [], ◌∷◌, ◌++◌, length, take}
use Rattle.std.proofs.Common.{Option, None, Some}
use Rattle.std.proofs.Common.{inl, inr, arith, refl, sym, ap, ap₂, subst, length-append, ◌∙◌}
use Rattle.std.specs.Prelude.{IfSome, is_none, slice_get, MatchOption}
use Rattle.std.specs.Option.{option_map_or}
use Rattle.std.proofs.lemmas.Bool.{cases_Bool, eqb-true}
use Rattle.std.proofs.lemmas.Option.{slice_get_within}
use Rattle.vt_bytes.specs.Numbers.{be}
use Rattle.vt_bytes.specs.Memory.{Memory, IsTop, with_bytes}
use Rattle.vt_bytes.proofs.Memories.{lawful_with}
use Rattle.zone_alloc.specs.declared.alloc.Request.{Request}
use Rattle.cfg_directory.specs.declared.item.Item.{Item}
use Rattle.cfg_directory.specs.declared.listed.Listed.{Listed}
use Rattle.cfg_directory.specs.Files.{files_of}
use Rattle.cfg_directory.specs.Listing.{listed_of, listed_in}
use Rattle.loader_script.specs.LoaderName.{loader_name}
use Rattle.loader_script.specs.declared.entry.Entry.{Entry}
use Rattle.loader_script.specs.declared.entry.Entry.TheVariants.{Allocate, AddPointer, AddChecksum, WritePointer, Misnamed, Skipped}
use Rattle.loader_script.specs.declared.refusing.Cause.{Cause}
use Rattle.loader_script.specs.Run.{cause_of}
use Rattle.loader_script.specs.Conditions.{CanAllocate, CanWritePointer}
use Rattle.loader_script.proofs.Conditions.{conditions_from}
use Rattle.cfg_dma.specs.declared.transfer.Flight.{Flight}
use Rattle.cfg_dma.specs.Transfers.{Attached}
use Rattle.cfg_dma.specs.Reads.{IsMoving, IsOver, started}
use Rattle.cfg_dma.specs.Writes.{next_write, skip_of, write_of}
use Rattle.cfg_dma.proofs.WriteStarted.{write_is_started}
use Rattle.command_acts.specs.declared.placed.PlacedFile.{PlacedFile}
use Rattle.command_acts.specs.declared.fault.LoadFault.TheVariants.{NoScript}
use Rattle.command_acts.specs.FilesInMemory.{placed_ranges}
use Rattle.command_acts.specs.Allocators.{AreLawful}
use Rattle.command_acts.specs.Runs.{Answers, request_of as asked_of, request_by}
use Rattle.command_acts.proofs.ItemsWritten.{bytes_of_named}
use Rattle.load_states.specs.declared.event.Event.{Event}
use Rattle.load_states.specs.declared.event.Event.TheVariants.{Device, Firmware, Other, Reset}
use Rattle.load_states.specs.declared.stage.Stage.{Stage}
use Rattle.load_states.specs.declared.reading.Reading.{Reading}
use Rattle.load_states.specs.declared.reading.Reading.TheVariants as read
use Rattle.load_states.specs.declared.stage.Stage.TheVariants.{Asks, Awaits, AtCommand, AwaitsSkip, AsksWrite, AwaitsWrite, Done, Refused}
use Rattle.load_states.specs.Guarded.{descriptor_at, buffer_at}
use Rattle.load_states.specs.LoadState.{LoadState, Opening, memory_of, items_now, listed_named, progress_of}
use Rattle.load_states.specs.Steps.{Asking, asking, asking_for, asked, stage_for, is_over, taken_of, firmware_step, at_command, commanded}
use Rattle.load_states.specs.Steps.{carried_out, placed_at, skips, writes, number_for, buffered}
use Rattle.load_states.specs.Kept.{KeepsNow, StageKeeps, Knows, HasScript, read_by, moves_before}
use Rattle.load_states.specs.Runs.{StepsTo, request_at, request_for}
use Rattle.load_states.proofs.CanReads.{file_can, file_select_small}
use Rattle.load_states.proofs.CommandCauses.{IsBefore}
use Rattle.load_states.proofs.CommandMoves.{room_at}
use Rattle.load_states.proofs.CommandPlaces.{file_read_of, listed_as_now, listed_there, placeable, placed_is}
use Rattle.load_states.proofs.CountRead.{count_held}
use Rattle.load_states.proofs.EntriesRead.{all_listed, entries_held}
use Rattle.load_states.proofs.Known.{asking_is, can_read, few_before, some_read, word_of}
use Rattle.load_states.proofs.Looks.{over_now}
use Rattle.load_states.proofs.NamedItems.{item_there, listing}
use Rattle.load_states.proofs.Pointing.{can_put}
use Rattle.load_states.proofs.Shaped.{bytes_as_many}
use Rattle.load_states.proofs.StepKeeps.{FirmwareTo, step_keeps_now}
use Rattle.load_states.proofs.StartEvents.{started_by, starts_on}
use Rattle.load_states.proofs.LooksAlike.{read_tells, write_tells}
use Rattle.load_states.specs.Pace.{Pace, pace_of, moved_in, commands_in, commands_of, file_length, number_length, reading_length, length_at}
use Rattle.load_states.specs.Pace.{behind_reading}
use Rattle.load_states.specs.Pace.{at_entry, stepped, paced, IsUnrefused}
use Rattle.load_states.proofs.Zoned.{zoned_in}
use Rattle.load_states.proofs.MovedBytes.{piece_paced, started_fresh, fresh_flight}

-- the commands that are known
script_known : (items : List Item) (w : LoadState) → HasScript items w → commands_of items ≡ w.script
script_known items w has = ap commands_in has.script

-- ---- a piece

-- how long the transfer in flight is
none_long : (o : Option Flight) (total : ℕ) → o ≡ None → IfSome o (λ (f : Flight). f.transfer.length ≡ total)
none_long o total idle = subst (λ (o : Option Flight). IfSome o (λ f. f.transfer.length ≡ total)) (sym idle) tt

one_long : (o : Option Flight) (total : ℕ) (f : Flight) → o ≡ Some f → f.transfer.length ≡ total → IfSome o (λ (f : Flight). f.transfer.length ≡ total)
one_long o total f flying long = subst (λ (o : Option Flight). IfSome o (λ f. f.transfer.length ≡ total)) (sym flying) long

reading_long : (May : Answers) (its : Opening) (w : LoadState) (reading : Reading)
    → KeepsNow May its w → (known : Knows May its.items w reading)
    → (read_by May its.items w reading known).transfer.length ≡ reading_length its.items reading
reading_long May its w read.Count kept known = refl
reading_long May its w (read.Entries size taken) kept known = ap (λ n. asked (size - n)) (sym known.taken_is)
reading_long May its w (read.Commands select size taken) kept known = ap (λ n. asked (size - n)) (sym known.taken_is)
reading_long May its w (read.File index) kept known =
    known.size ∙ sym (ap (λ (bytes : List ℕ). length bytes) (bytes_of_named (items_now w) known.last.name known.file known.there))
    ∙ bytes_as_many its.items (items_now w) known.last.name kept.shape
    ∙ ap (file_length its.items) (sym (ap (λ script. slice_get script index) (script_known its.items w known.script) ∙ known.command))

stage_long : (May : Answers) (its : Opening) (w : LoadState) (s : Stage) → KeepsNow May its w
    → StageKeeps May its.items w s → IfSome w.attached.device.flight (λ (f : Flight). f.transfer.length ≡ length_at its.items s)
stage_long May its w (Asks reading) kept keeps = none_long w.attached.device.flight 0 keeps.1.1.idle.idle
stage_long May its w (Awaits reading) kept keeps =
    let r = read_by May its.items w reading keeps.0 in
    elim keeps.1 as (λ _. IfSome w.attached.device.flight (λ (f : Flight). f.transfer.length ≡ reading_length its.items reading)) [
      | inl moving ↦
          one_long w.attached.device.flight (reading_length its.items reading)
          (record { descriptor = descriptor_at; transfer = r.transfer; moved = moving.moved }) moving.flight
          (reading_long May its w reading kept keeps.0)
      | inr over ↦ none_long w.attached.device.flight (reading_length its.items reading) over.idle
    ]
stage_long May its w (AtCommand index) kept keeps = none_long w.attached.device.flight 0 keeps.2.idle
stage_long May its w (AwaitsSkip index) kept keeps = none_long w.attached.device.flight 0 keeps.1.idle
stage_long May its w (AsksWrite index) kept keeps = none_long w.attached.device.flight 0 keeps.1.idle
stage_long May its w (AwaitsWrite index) kept keeps =
    let known = keeps.1 in
    let total = number_length (slice_get (commands_of its.items) index) in
    let long : known.size ≡ total =
    ap number_length (sym (ap (λ script. slice_get script index) (script_known its.items w known.script) ∙ known.command)) in
    elim keeps.2 as (λ _. IfSome w.attached.device.flight (λ (f : Flight). f.transfer.length ≡ total)) [
      | inl writing ↦
          one_long w.attached.device.flight total (record {
            descriptor = descriptor_at;
            transfer = write_of known.file.select known.dst_offset known.size buffer_at;
            moved = writing.moved;
          }) writing.flight long
      | inr written ↦ none_long w.attached.device.flight total written.idle
    ]
stage_long May its w Done kept keeps = none_long w.attached.device.flight 0 keeps.0.idle
stage_long May its w (Refused why) kept keeps = none_long w.attached.device.flight 0 keeps.idle

-- ---- what is started

-- a pace by its parts
abbrev pace : Stage → Option ℕ → Pace
pace s moved = record { stage = s; moved = moved }

asks_paced : (May : Answers) (its : Opening) (w : LoadState) (reading : Reading)
    → KeepsNow May its w → StageKeeps May its.items w (Asks reading)
    → pace_of (asking reading (asking_for reading w) w) ≡ pace (Awaits reading) (Some 0)
asks_paced May its w reading kept keeps =
    let buffered = keeps.0 in
    let known = keeps.1.0 in
    let next = keeps.1.1 in
    let r = read_by May its.items w reading known in
    let few = few_before May its.items w reading buffered known in
    let starts = starts_on its.top r w.attached kept.top kept.device kept.memory next.idle.idle next.idle.finished
    (omega (arith, few, kept.room)) (can_read May its w reading kept known (some_read May its.items w reading buffered known)) next.asks in
    let after : Attached = started_by r w.attached in
    let moving : IsMoving after.device.items r.before descriptor_at r.control r.transfer after = starts.0 in
    ap (λ (what : Asking). pace_of (asking reading what w)) (asking_is May its.items w reading buffered known)
    ∙ ap (pace (Awaits reading))
    (fresh_flight after (record { descriptor = descriptor_at; transfer = r.transfer; moved = moving.moved })
    (started_fresh descriptor_at r.control r.transfer.length r.transfer.address w.attached next.idle.idle) moving.flight)

-- the file of an Allocate
place_paced : (May : Answers) (its : Opening) (w : LoadState) (index : ℕ) (name : List ℕ)
    (align zone place : ℕ) → AreLawful May its.top → KeepsNow May its w → IsBefore May its.items w index (Allocate name align zone)
    → cause_of (Allocate name align zone) (progress_of w) ≡ None
    → May (placed_ranges w.placed) (asked_of (files_of (items_now w)) name align zone) (Some place)
    → pace_of (placed_at index name place (listed_named w.listed name) w) ≡ pace (Awaits (read.File index)) (Some 0)
place_paced May its w index name align zone place lawful kept before none may =
    let can : CanAllocate (progress_of w) name align zone = conditions_from (Allocate name align zone) (progress_of w) none in
    let found = item_there (items_now w) name can.file can.there in
    let item : Item = found.0 in
    let p : PlacedFile = record { name = name; place = place; size = length item.bytes } in
    let placed = placeable May its w name align zone place item lawful kept found.1 none may in
    let r = file_read_of its.items index w item p in
    let within = slice_get_within w.script index (Allocate name align zone) before.there in
    let room = room_at its.items w.script index w.placed before.script.script within in
    let starts = starts_on its.top r w.attached kept.top kept.device kept.memory before.idle.idle before.idle.finished (omega (arith, room, kept.room))
    (file_can (items_now w) its.top name item p kept.device.items found.1 refl placed.some placed.new.ram
    (zoned_in its.top p (subst IsTop kept.top kept.memory.top) placed.zone))
    (inl (refl, file_select_small (items_now w) name item kept.device.items found.1, refl)) in
    let after : Attached = started_by r w.attached in
    let moving : IsMoving after.device.items r.before descriptor_at r.control r.transfer after = starts.0 in
    let listed = listed_there (items_now w) w.listed name item (listed_as_now May its w kept before.script.listed) found.1 in
    ap (λ (o : Option Listed). pace_of (placed_at index name place o w)) listed
    ∙ ap pace_of (placed_is index name place (listing item) w listed)
    ∙ ap (pace (Awaits (read.File index)))
    (fresh_flight after (record { descriptor = descriptor_at; transfer = r.transfer; moved = moving.moved })
    (started_fresh descriptor_at r.control r.transfer.length r.transfer.address w.attached before.idle.idle) moving.flight)

-- the number of a WritePointer
write_paced : (May : Answers) (its : Opening) (w : LoadState) (index : ℕ)
    → KeepsNow May its w → StageKeeps May its.items w (AsksWrite index)
    → pace_of (writes index (slice_get w.script index) w) ≡ pace (AwaitsWrite index) (Some 0)
write_paced May its w index kept keeps =
    let known = keeps.0 in
    let skipped = keeps.1 in
    let entry = WritePointer known.dest known.src known.dst_offset known.src_offset known.size in
    let number : List ℕ = number_for w known.src known.src_offset known.size in
    let m : Memory = with_bytes (memory_of w) buffer_at number in
    let lawful = lawful_with (memory_of w) buffer_at number kept.memory in
    let a : Attached = record w.attached { memory = m } in
    let transfer = write_of known.file.select known.dst_offset known.size buffer_at in
    let before = moves_before its.items index w w.placed ++ skip_of known.file.select known.dst_offset ∷ [] in
    let within = slice_get_within w.script index entry known.command in
    let room = room_at its.items w.script index w.placed known.script.script within in
    let so_many = length-append (moves_before its.items index w w.placed) (skip_of known.file.select known.dst_offset ∷ []) in
    let spare : 0 < w.attached.device.spare = omega (arith, room, kept.room, ap length skipped.finished, so_many) in
    let can = can_put May its.items (items_now w) index (memory_of w).top w known in
    let starts = write_is_started a before descriptor_at transfer kept.device lawful skipped.idle spare skipped.finished can
    (sym skipped.selected) (sym skipped.offset) in
    let after : Attached = started descriptor_at next_write known.size buffer_at a in
    let flying = starts.0.flight in
    ap (λ (o : Option Entry). pace_of (writes index o w)) known.command
    ∙ ap (pace (AwaitsWrite index))
    (fresh_flight after (record { descriptor = descriptor_at; transfer = transfer; moved = starts.0.moved })
    (started_fresh descriptor_at next_write known.size buffer_at a skipped.idle) flying)

-- ---- a look

-- two choices by one test
chooses : {A : Type 0} (c : Bool) (x y u v : A) → (c ≡ true → x ≡ u) → (c ≡ false → y ≡ v) → (if c then x else y) ≡ (if c then u else v)
chooses true x y u v first second = first refl
chooses false x y u v first second = second refl

-- nothing is in flight exactly where nothing was moved of it
idle_moved : (o : Option Flight) → is_none (moved_in o) ≡ is_none o
idle_moved None = refl
idle_moved (Some f) = refl

-- what comes behind a reading that is over, where the load isn't refused
behind : (May : Answers) (its : Opening) (w : LoadState) (reading : Reading)
    → KeepsNow May its w → (known : Knows May its.items w reading)
    → IsOver (items_now w) (read_by May its.items w reading known).before descriptor_at (read_by May its.items w reading known).transfer w.attached
    → IsUnrefused (taken_of reading w).stage → (taken_of reading w).stage ≡ behind_reading its.items reading
behind May its w read.Count kept known over unrefused =
    let count = be (buffered 4 w) in
    let is : count ≡ length its.items = count_held its.items [] w.attached kept.lawful
    (subst (λ (those : List Item). IsOver those [] descriptor_at (read_by May its.items w read.Count known).transfer w.attached) known.begun over) in
    elim (cases_Bool (count == 0)) as (λ _. (taken_of read.Count w).stage ≡ behind_reading its.items read.Count) [
      | inl none ↦
          absurd (subst IsUnrefused (ap (λ c. if c then Refused NoScript else Asks (read.Entries (64 * count) 0)) none) unrefused)
      | inr some ↦
          ap (λ c. if c then Refused NoScript else Asks (read.Entries (64 * count) 0)) some
          ∙ ap (λ n. Asks (read.Entries (64 * n) 0)) is
    ]
behind May its w (read.Entries size taken) kept known over unrefused =
    let count = asked (size - taken) in
    let listed = w.listed ++ listed_in (count / 64) (buffered count w) in
    let r = read_by May its.items w (read.Entries size taken) known in
    let past : IsOver its.items r.before descriptor_at r.transfer w.attached =
    subst (λ (those : List Item). IsOver those r.before descriptor_at r.transfer w.attached) known.begun over in
    let now : listed ≡ take ((taken + count) / 64) (listed_of its.items) =
    ap (λ (l : List Listed). l ++ listed_in (count / 64) (buffered count w)) known.listed
    ∙ entries_held its.items size taken known.pieces (memory_of w) kept.lawful kept.names known.taken_is known.size_is known.some_left past.held in
    chooses (taken + count == size) (stage_for (listed_named listed loader_name)) (Asks (read.Entries size (taken + count)))
    (stage_for (listed_named (listed_of its.items) loader_name)) (Asks (read.Entries size (taken + count)))
    (λ done. ap (λ (l : List Listed). stage_for (listed_named l loader_name))
    (now ∙ ap (λ n. take (n / 64) (listed_of its.items)) (eqb-true (taken + count) size done) ∙ all_listed its.items size known.size_is))
    (λ more. refl)
behind May its w (read.Commands select size taken) kept known over unrefused = refl
behind May its w (read.File index) kept known over unrefused = refl

-- nothing changes but the stage, where something is taken
taken_moved : (w : LoadState) (reading : Reading) → (taken_of reading w).attached ≡ w.attached
taken_moved w read.Count = refl
taken_moved w (read.Entries size taken) = refl
taken_moved w (read.Commands select size taken) = refl
taken_moved w (read.File index) = refl

-- a stage that is the same where a test is the same, and the load unrefused
looks : (c d : Bool) (over : LoadState) (w : LoadState) (s : Stage) → c ≡ d → (c ≡ true → IsUnrefused over.stage → over.stage ≡ s)
    → over.attached ≡ w.attached → IsUnrefused (if c then over else w).stage
    → pace_of (if c then over else w) ≡ pace (if d then s else w.stage) (moved_in w.attached.device.flight)
looks true d over w s same taken still unrefused =
    ap₂ pace (taken refl unrefused) (ap (λ (a : Attached). moved_in a.device.flight) still)
    ∙ ap (λ c. pace (if c then s else w.stage) (moved_in w.attached.device.flight)) same
looks false d over w s same taken still unrefused = ap (λ c. pace (if c then s else w.stage) (moved_in w.attached.device.flight)) same

-- whether a read is seen over is told by what was moved
told_by : (w : LoadState) → is_over w ≡ is_none w.attached.device.flight → is_over w ≡ is_none (moved_in w.attached.device.flight)
told_by w is = is ∙ sym (idle_moved w.attached.device.flight)

looks_paced : (May : Answers) (its : Opening) (w : LoadState) (reading : Reading)
    → KeepsNow May its w → StageKeeps May its.items w (Awaits reading) → w.stage ≡ Awaits reading
    → IsUnrefused (firmware_step (Awaits reading) None w).stage
    → pace_of (firmware_step (Awaits reading) None w)
    ≡ pace (if is_none (moved_in w.attached.device.flight) then behind_reading its.items reading else w.stage) (moved_in w.attached.device.flight)
looks_paced May its w reading kept keeps stage unrefused =
    let known = keeps.0 in
    let r = read_by May its.items w reading known in
    let word = word_of May its.items w reading kept.lawful kept.device.items known in
    let tells = read_tells (items_now w) r.before descriptor_at r.control r.transfer w.attached word.0 word.1 keeps.1 in
    looks (is_over w) (is_none (moved_in w.attached.device.flight)) (taken_of reading w) w (behind_reading its.items reading)
    (told_by w tells) (λ zero. behind May its w reading kept known
    (over_now (items_now w) r.before descriptor_at r.control r.transfer w.attached word.0 word.1 keeps.1 zero)) (taken_moved w reading) unrefused

-- ---- a command

-- the file of a WritePointer is listed
skip_paced : (May : Answers) (its : Opening) (w : LoadState) (index : ℕ) (dest src : List ℕ)
    (dst_offset src_offset size : ℕ) → KeepsNow May its w
    → IsBefore May its.items w index (WritePointer dest src dst_offset src_offset size)
    → cause_of (WritePointer dest src dst_offset src_offset size) (progress_of w) ≡ None
    → KeepsNow May its (skips index dst_offset (listed_named w.listed dest) w)
    → pace_of (skips index dst_offset (listed_named w.listed dest) w) ≡ pace (AwaitsSkip index) (moved_in w.attached.device.flight)
skip_paced May its w index dest src dst_offset src_offset size kept before none after =
    let can : CanWritePointer (progress_of w) dest src dst_offset src_offset size =
    conditions_from (WritePointer dest src dst_offset src_offset size) (progress_of w) none in
    let found = item_there (items_now w) dest can.file can.there in
    let listed = listed_there (items_now w) w.listed dest found.0 (listed_as_now May its w kept before.script.listed) found.1 in
    let next : LoadState = skips index dst_offset (Some (listing found.0)) w in
    let there : KeepsNow May its next =
    subst (λ (o : Option Listed). KeepsNow May its (skips index dst_offset o w)) listed after in
    ap (λ (o : Option Listed). pace_of (skips index dst_offset o w)) listed
    ∙ ap (pace (AwaitsSkip index)) (ap moved_in there.stage.1.idle ∙ sym (ap moved_in before.idle.idle))

-- what is answered is an answer that an allocator may give, where one is asked
abbrev MayBe : Answers → LoadState → Option Request → Option ℕ → Type 0
MayBe May w asked answer = MatchOption asked (Unit {0}) (λ request. May (placed_ranges w.placed) request answer)

carried_paced : (May : Answers) (its : Opening) (w : LoadState) (index : ℕ) (entry : Entry)
    (answer : Option ℕ) → AreLawful May its.top → KeepsNow May its w → IsBefore May its.items w index entry
    → cause_of entry (progress_of w) ≡ None → MayBe May w (request_by (files_of (items_now w)) entry) answer
    → KeepsNow May its (carried_out index entry answer w) → IsUnrefused (carried_out index entry answer w).stage
    → pace_of (carried_out index entry answer w) ≡ at_entry index (Some entry) (moved_in w.attached.device.flight)
carried_paced May its w index (Allocate name align zone) None lawful kept before none may after unrefused = absurd unrefused
carried_paced May its w index (Allocate name align zone) (Some place) lawful kept before none may after unrefused =
    place_paced May its w index name align zone place lawful kept before none may
carried_paced May its w index (AddPointer dest src offset size) answer lawful kept before none may after unrefused = refl
carried_paced May its w index (AddChecksum name offset start count) answer lawful kept before none may after unrefused = refl
carried_paced May its w index (WritePointer dest src dst_offset src_offset size) answer lawful kept before none may after unrefused =
    skip_paced May its w index dest src dst_offset src_offset size kept before none after
carried_paced May its w index (Misnamed command) answer lawful kept before none may after unrefused = refl
carried_paced May its w index (Skipped command) answer lawful kept before none may after unrefused = refl

commanded_paced : (May : Answers) (its : Opening) (w : LoadState) (index : ℕ) (entry : Entry)
    (cause : Option Cause) (answer : Option ℕ) → AreLawful May its.top → KeepsNow May its w → IsBefore May its.items w index entry
    → cause_of entry (progress_of w) ≡ cause
    → MayBe May w (option_map_or (λ (cause : Cause). None) cause (request_by (files_of (items_now w)) entry)) answer
    → KeepsNow May its (commanded index entry cause answer w)
    → IsUnrefused (commanded index entry cause answer w).stage
    → pace_of (commanded index entry cause answer w) ≡ at_entry index (Some entry) (moved_in w.attached.device.flight)
commanded_paced May its w index entry (Some cause) answer lawful kept before is may after unrefused = absurd unrefused
commanded_paced May its w index entry None answer lawful kept before is may after unrefused =
    carried_paced May its w index entry answer lawful kept before is may after unrefused

there_paced : (May : Answers) (its : Opening) (w : LoadState) (index : ℕ) (there : Option Entry)
    (answer : Option ℕ) → AreLawful May its.top → KeepsNow May its w → StageKeeps May its.items w (AtCommand index)
    → slice_get w.script index ≡ there → MayBe May w (option_map_or (λ entry. request_for entry w) there None) answer
    → KeepsNow May its (at_command index there answer w) → IsUnrefused (at_command index there answer w).stage
    → pace_of (at_command index there answer w) ≡ at_entry index there (moved_in w.attached.device.flight)
there_paced May its w index None answer lawful kept keeps is may after unrefused = refl
there_paced May its w index (Some entry) answer lawful kept keeps is may after unrefused =
    let before : IsBefore May its.items w index entry = record { script = keeps.0; there = is; idle = keeps.2; run = keeps.3 } in
    commanded_paced May its w index entry (cause_of entry (progress_of w)) answer lawful kept before refl may after unrefused

command_paced : (May : Answers) (its : Opening) (w : LoadState) (index : ℕ) (answer : Option ℕ)
    → AreLawful May its.top → KeepsNow May its w → StageKeeps May its.items w (AtCommand index)
    → MayBe May w (request_at (AtCommand index) w) answer
    → KeepsNow May its (firmware_step (AtCommand index) answer w)
    → IsUnrefused (firmware_step (AtCommand index) answer w).stage
    → pace_of (firmware_step (AtCommand index) answer w) ≡ stepped its.items (AtCommand index) (moved_in w.attached.device.flight)
command_paced May its w index answer lawful kept keeps may after unrefused =
    there_paced May its w index (slice_get w.script index) answer lawful kept keeps refl may after unrefused
    ∙ ap (λ script. at_entry index (slice_get script index) (moved_in w.attached.device.flight)) (sym (script_known its.items w keeps.0))

-- ---- a step of the firmware

-- a skip that was awaited is over
skip_taken : (May : Answers) (items : List Item) (w : LoadState) (index : ℕ) → StageKeeps May items w (AwaitsSkip index)
    → pace_of (firmware_step (AwaitsSkip index) None w) ≡ pace (AsksWrite index) (moved_in w.attached.device.flight)
skip_taken May items w index keeps =
    let zero : is_over w ≡ true = ap (λ n. n == 0) keeps.1.control in
    ap (λ c. pace_of (if c then record w { stage = AsksWrite index } else w)) zero

write_taken : (May : Answers) (items : List Item) (w : LoadState) (index : ℕ) → StageKeeps May items w (AwaitsWrite index) → w.stage ≡ AwaitsWrite index
    → IsUnrefused (firmware_step (AwaitsWrite index) None w).stage
    → pace_of (firmware_step (AwaitsWrite index) None w)
    ≡ pace (if is_none (moved_in w.attached.device.flight) then AtCommand (suc index) else w.stage) (moved_in w.attached.device.flight)
write_taken May items w index keeps stage unrefused =
    looks (is_over w) (is_none (moved_in w.attached.device.flight)) (record w { stage = AtCommand (suc index) }) w (AtCommand (suc index))
    (told_by w (write_tells keeps.0 _ _ descriptor_at _ w.attached keeps.2)) (λ zero any. refl) refl unrefused

-- a step by which the load is paced
abbrev Paces : Answers → Opening → LoadState → Stage → LoadState → Type 0
Paces May its w s next =
    KeepsNow May its next → IsUnrefused next.stage → pace_of next ≡ stepped its.items s (moved_in w.attached.device.flight)

at_command_paced : (May : Answers) (its : Opening) (w next : LoadState) (index : ℕ) (asked : Option Request)
    → AreLawful May its.top → KeepsNow May its w → StageKeeps May its.items w (AtCommand index) → request_at (AtCommand index) w ≡ asked
    → FirmwareTo May (AtCommand index) asked w next → Paces May its w (AtCommand index) next
at_command_paced May its w next index None lawful kept keeps is steps =
    subst (Paces May its w (AtCommand index)) (sym steps)
    (command_paced May its w index None lawful kept keeps
    (subst (λ (asked : Option Request). MatchOption asked (Unit {0}) (λ request. May (placed_ranges w.placed) request None)) (sym is) tt))
at_command_paced May its w next index (Some request) lawful kept keeps is steps =
    subst (Paces May its w (AtCommand index)) (sym steps.2)
    (command_paced May its w index steps.0 lawful kept keeps
    (subst (λ (asked : Option Request). MatchOption asked (Unit {0}) (λ request. May (placed_ranges w.placed) request steps.0)) (sym is) steps.1))

-- the stage that a load is at
looked : (items : List Item) (w : LoadState) (reading : Reading) (moved : Option ℕ) → w.stage ≡ Awaits reading
    → pace (if is_none moved then behind_reading items reading else w.stage) moved ≡ stepped items (Awaits reading) moved
looked items w reading moved is = ap (λ s. pace (if is_none moved then behind_reading items reading else s) moved) is

wrote : (items : List Item) (w : LoadState) (index : ℕ) (moved : Option ℕ) → w.stage ≡ AwaitsWrite index
    → pace (if is_none moved then AtCommand (suc index) else w.stage) moved ≡ stepped items (AwaitsWrite index) moved
wrote items w index moved is = ap (λ s. pace (if is_none moved then AtCommand (suc index) else s) moved) is

firmware_paced : (May : Answers) (its : Opening) (w next : LoadState) (s : Stage) → AreLawful May its.top
    → KeepsNow May its w → StageKeeps May its.items w s → w.stage ≡ s → FirmwareTo May s (request_at s w) w next
    → Paces May its w s next
firmware_paced May its w next (Asks reading) lawful kept keeps is steps after unrefused =
    ap pace_of steps ∙ asks_paced May its w reading kept keeps
firmware_paced May its w next (Awaits reading) lawful kept keeps is steps after unrefused =
    ap pace_of steps
    ∙ looks_paced May its w reading kept keeps is (subst (λ (x : LoadState). IsUnrefused x.stage) steps unrefused)
    ∙ looked its.items w reading (moved_in w.attached.device.flight) is
firmware_paced May its w next (AtCommand index) lawful kept keeps is steps after unrefused =
    at_command_paced May its w next index (request_at (AtCommand index) w) lawful kept keeps refl steps after unrefused
firmware_paced May its w next (AwaitsSkip index) lawful kept keeps is steps after unrefused =
    ap pace_of steps ∙ skip_taken May its.items w index keeps
firmware_paced May its w next (AsksWrite index) lawful kept keeps is steps after unrefused =
    ap pace_of steps ∙ write_paced May its w index kept keeps
firmware_paced May its w next (AwaitsWrite index) lawful kept keeps is steps after unrefused =
    ap pace_of steps ∙ write_taken May its.items w index keeps is (subst (λ (x : LoadState). IsUnrefused x.stage) steps unrefused)
    ∙ wrote its.items w index (moved_in w.attached.device.flight) is
firmware_paced May its w next Done lawful kept keeps is steps after unrefused =
    ap pace_of steps ∙ ap (λ s. pace s (moved_in w.attached.device.flight)) is
firmware_paced May its w next (Refused why) lawful kept keeps is steps after unrefused =
    ap pace_of steps ∙ ap (λ s. pace s (moved_in w.attached.device.flight)) is

-- An event leads from one pace to the next, whatever the places, where the load isn't refused.
pub step_paced : (May : Answers) (its : Opening) (event : Event) (w next : LoadState) → AreLawful May its.top
    → KeepsNow May its w → StepsTo May event w next → IsUnrefused next.stage → pace_of next ≡ paced its.items event (pace_of w)
step_paced May its (Device bytes) w next lawful kept steps unrefused =
    ap pace_of steps
    ∙ ap (pace w.stage) (piece_paced (length_at its.items w.stage) bytes w.attached (stage_long May its w w.stage kept kept.stage))
step_paced May its Firmware w next lawful kept steps unrefused =
    firmware_paced May its w next w.stage lawful kept kept.stage refl steps
    (step_keeps_now May its Firmware w next lawful kept steps) unrefused
step_paced May its (Other address byte) w next lawful kept steps unrefused = ap pace_of steps
step_paced May its Reset w next lawful kept steps unrefused = ap pace_of steps
