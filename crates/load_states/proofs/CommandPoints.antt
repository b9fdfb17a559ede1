-- A WritePointer: its skip, then its write, and what its number makes of the items.
use Rattle.std.proofs.Common.{◌≡◌, ℕ, suc, ◌+◌, ◌^◌, ◌<◌, ◌≤◌, ◌⊎◌, inl, inr, true, false, ◌==◌, List, [], ◌∷◌, ◌++◌, length, map, Option, Some, None}
use Rattle.std.proofs.Common.{arith, refl, sym, ap, subst, ◌∙◌, length-append, append_assoc}
use Rattle.std.proofs.lemmas.Bool.{eqb-true}
use Rattle.std.proofs.lemmas.List.{length-map, append-nil}
use Rattle.std.proofs.lemmas.Option.{slice_get_within}
use Rattle.vt_bytes.specs.Numbers.{be, le_bytes}
use Rattle.vt_bytes.specs.Parts.{put_at}
use Rattle.vt_bytes.specs.Memory.{Memory, IsRamRange, at, bytes_at, with_bytes}
use Rattle.vt_bytes.proofs.Numbers.{length-le_bytes}
use Rattle.vt_bytes.proofs.Memories.{bytes_with, others_with, lawful_with}
use Rattle.cfg_directory.specs.declared.item.Item.{Item}
use Rattle.cfg_directory.specs.declared.listed.Listed.{Listed}
use Rattle.cfg_directory.specs.Items.{IsItems, AreDistinct, named, with_bytes_at}
use Rattle.cfg_directory.specs.Files.{files_of}
use Rattle.cfg_directory.specs.Shapes.{shape_of, HaveOneShape}
use Rattle.vt_outside.specs.File.{File}
use Rattle.loader_script.specs.declared.entry.Entry.{Entry}
use Rattle.loader_script.specs.declared.entry.Entry.TheVariants.{WritePointer}
use Rattle.loader_script.specs.Conditions.{CanWritePointer}
use Rattle.loader_script.specs.Run.{Progress, cause_of, carried_out, bytes_of, files_with, place_of as place_in_run}
use Rattle.loader_script.proofs.Conditions.{conditions_from}
use Rattle.cfg_dma.specs.declared.transfer.Finished.{Finished}
use Rattle.cfg_dma.specs.Transfers.{Attached}
use Rattle.cfg_dma.specs.Reads.{GoesOn, started, descriptor_bytes}
use Rattle.cfg_dma.specs.Writes.{CanSkip, IsSkipped, IsWriting, IsWritten, IsWriteAwaited, selected_skip, next_write, skip_of, write_of}
use Rattle.cfg_dma.proofs.Holds.{file_small}
use Rattle.cfg_dma.proofs.Started.{word_written}
use Rattle.cfg_dma.proofs.WriteStarted.{skip_is_over, write_is_started}
use Rattle.cfg_dma.proofs.WriteAwaited.{written_items}
use Rattle.command_acts.specs.FilesInMemory.{files_in, placed_in, place_of}
use Rattle.command_acts.specs.Runs.{Answers, at_files, with_places}
use Rattle.command_acts.specs.Steps.{LeadsOn}
use Rattle.command_acts.proofs.Allocations.{ranges_in}
use Rattle.command_acts.proofs.ItemsWritten.{as_file, put_as_file, selected_named}
use Rattle.command_acts.proofs.OneCommand.{leads_from}
use Rattle.load_states.specs.declared.stage.Stage.TheVariants.{AtCommand, AwaitsSkip, AsksWrite, AwaitsWrite}
use Rattle.load_states.specs.Guarded.{descriptor_at, buffer_at, is_work}
use Rattle.load_states.specs.LoadState.{LoadState, Opening, memory_of, items_now, files_now, progress_of, listed_named}
use Rattle.load_states.specs.Moves.{command_moves, pointer_moves}
use Rattle.load_states.specs.Steps.{is_over, skips, writes, passed, number_for, firmware_step}
use Rattle.load_states.specs.Kept.{KeepsNow, StageKeeps, IsPointing, moves_before}
use Rattle.load_states.proofs.CanReads.{file_select_small}
use Rattle.load_states.proofs.CommandCauses.{IsBefore}
use Rattle.load_states.proofs.CommandMoves.{room_at, moves_of_command, pointer_moves_are}
use Rattle.load_states.proofs.CommandPatches.{carried_more}
use Rattle.load_states.proofs.CommandPlaces.{listed_as_now, listed_there}
use Rattle.load_states.proofs.Frames.{KeepsOn, kept_from, files_same, beside_work, descriptor_ram, buffer_ram}
use Rattle.load_states.proofs.Looks.{by_test, kept_with, kept_waiting}
use Rattle.load_states.proofs.NamedItems.{contents_named, item_there}
use Rattle.load_states.proofs.Pointing.{pointing_still, can_put, pointer_fits, place_as_run}
use Rattle.load_states.proofs.Taken.{going_on}
use Rattle.load_states.proofs.Zoned.{zoned_files}
use Rattle.cfg_dma.proofs.Standing.{skip_stands, started_address, write_stands}

-- memory outside of the work range stays
abbrev StaysOutside : Memory → Memory → Type 0
StaysOutside before after = (address : ℕ) → is_work address ≡ false → at after address ≡ at before address

-- so placed files hold what they held
files_outside : (May : Answers) (its : Opening) (w : LoadState) (m : Memory) → KeepsNow May its w → StaysOutside (memory_of w) m
    → files_in m w.placed ≡ files_now w
files_outside May its w m kept stays =
    files_same its.top (memory_of w) m w.placed kept.top kept.loading.apart (zoned_files kept) (λ address ram guarded other. stays address other)

-- an address that is beside the buffer is beside what is put at its start
beside_number : (address size : ℕ) → size ≤ 4096 → (address < buffer_at) ⊎ (buffer_at + 4096 ≤ address)
    → (address < buffer_at) ⊎ (buffer_at + size ≤ address)
beside_number address size few beside =
    elim beside as (λ _. (address < buffer_at) ⊎ (buffer_at + size ≤ address)) [ inl l ↦ inl l | inr l ↦ inr (omega arith) ]

-- an item of a device has few bytes
item_small : (items : List Item) (name : List ℕ) (item : Item) → IsItems items → named items name ≡ Some item → length item.bytes < 2 ^ 32
item_small items name item lawful there =
    omega (arith, file_small items item.select item (selected_named items name item lawful.distinct there), lawful.small)

-- ---- the skip

-- a device can skip to where the number begins
skip_can : (items : List Item) (top : ℕ) (p : Progress) (dest src : List ℕ) (dst_offset src_offset size : ℕ) (file : Item) → IsItems items
    → (can : CanWritePointer p dest src dst_offset src_offset size) → named items dest ≡ Some file → can.file ≡ as_file file
    → CanSkip items top descriptor_at file.select dst_offset
skip_can items top p dest src dst_offset src_offset size file lawful can there same =
    let held = contents_named items dest file lawful there in
    let within : dst_offset + size ≤ length file.bytes = subst (λ (f : File). dst_offset + size ≤ length f.bytes) same can.within in
    record {
      names = let small = file_select_small items dest file lawful there in omega (arith, small);
      within = omega (arith, within, ap length held);
      small = let few = item_small items dest file lawful there in omega (arith, within, few);
      low = omega arith;
      descriptor_ram = descriptor_ram top;
    }

-- The skip to where a WritePointer writes is over once it is asked for.
pub point_keeps : (May : Answers) (its : Opening) (w : LoadState) (index : ℕ) (dest src : List ℕ) (dst_offset src_offset size : ℕ)
    → KeepsNow May its w → IsBefore May its.items w index (WritePointer dest src dst_offset src_offset size) → cause_of
    (WritePointer dest src dst_offset src_offset size) (progress_of w) ≡ None → KeepsOn May its w
    (skips index dst_offset (listed_named w.listed dest) w)
point_keeps May its w index dest src dst_offset src_offset size kept before none =
    let entry = WritePointer dest src dst_offset src_offset size in
    let can : CanWritePointer (progress_of w) dest src dst_offset src_offset size = conditions_from entry (progress_of w) none in
    let found = item_there (items_now w) dest can.file can.there in
    let file : Item = found.0 in
    let known : IsPointing May its.items (items_now w) index w = record {
      script = before.script;
      lawful = kept.device.items;
      dest = dest;
      src = src;
      dst_offset = dst_offset;
      src_offset = src_offset;
      size = size;
      command = before.there;
      goes = none;
      file = file;
      there = found.1;
      run = before.run;
    } in
    let within = slice_get_within w.script index entry before.there in
    let room = room_at its.items w.script index w.placed before.script.script within in
    let spare : 0 < w.attached.device.spare = omega (arith, room, kept.room, ap length before.idle.finished) in
    let starts = skip_is_over w.attached (moves_before its.items index w w.placed) descriptor_at file.select dst_offset kept.device kept.memory
    before.idle.idle spare before.idle.finished
    (skip_can (items_now w) (memory_of w).top (progress_of w) dest src dst_offset src_offset size file kept.device.items can found.1 found.2) in
    let after : Attached = started descriptor_at (selected_skip file.select) dst_offset 0 w.attached in
    let next = going_on w after (AwaitsSkip index) in
    let outside : StaysOutside (memory_of w) after.memory = λ address other. starts.3 address (beside_work address other).0 in
    let still = pointing_still May its.items (items_now w) index w after (AwaitsSkip index)
    (files_outside May its w after.memory kept outside) known in
    let listed = listed_there (items_now w) w.listed dest file (listed_as_now May its w kept before.script.listed) found.1 in
    subst (λ (o : Option Listed). KeepsOn May its w (skips index dst_offset o w)) (sym listed)
    (kept_from May its w next kept starts.1 (ap (map shape_of) starts.2) refl
    (λ address ram other beside. outside address other)
    (skip_stands (moves_before its.items index w w.placed) descriptor_at file.select dst_offset after starts.0
    (started_address descriptor_at (selected_skip file.select) dst_offset 0 w.attached))
    (subst
    (λ (is : List Item).
    (k : IsPointing May its.items is index next) × IsSkipped (moves_before its.items index w w.placed) descriptor_at k.file.select k.dst_offset after)
    (sym starts.2) (still, starts.0)))

-- The firmware sees it over, and asks for the write next.
pub skip_taken_keeps : (May : Answers) (its : Opening) (w : LoadState) (index : ℕ) → KeepsNow May its w → StageKeeps May its.items w
    (AwaitsSkip index) → KeepsOn May its w (firmware_step (AwaitsSkip index) None w)
skip_taken_keeps May its w index kept keeps =
    by_test (KeepsOn May its w) (is_over w) (record w { stage = AsksWrite index }) w
    (λ over. kept_with May its w w.listed w.script (AsksWrite index) kept
    (pointing_still May its.items (items_now w) index w w.attached (AsksWrite index) refl keeps.0, keeps.1))
    (λ waits. kept_waiting May its w kept)

-- ---- the write

-- Its number stands in the buffer, and its write is started.
pub write_asked_keeps : (May : Answers) (its : Opening) (w : LoadState) (index : ℕ) → KeepsNow May its w → StageKeeps May its.items w
    (AsksWrite index) → KeepsOn May its w (firmware_step (AsksWrite index) None w)
write_asked_keeps May its w index kept keeps =
    let known = keeps.0 in
    let skipped = keeps.1 in
    let entry = WritePointer known.dest known.src known.dst_offset known.src_offset known.size in
    let number : List ℕ = number_for w known.src known.src_offset known.size in
    let size : length number ≡ known.size = length-le_bytes known.size (place_of w.placed known.src + known.src_offset) in
    let few = pointer_fits May its.items (items_now w) index w known in
    let m : Memory = with_bytes (memory_of w) buffer_at number in
    let lawful = lawful_with (memory_of w) buffer_at number kept.memory in
    let ram : IsRamRange (memory_of w).top buffer_at (length number) = λ i below. buffer_ram (memory_of w).top i (omega (arith, size, few)) in
    let held : bytes_at m buffer_at known.size ≡ number =
    subst (λ n. bytes_at m buffer_at n ≡ number) size (bytes_with (memory_of w) buffer_at number kept.memory ram) in
    let a : Attached = record w.attached { memory = m } in
    let transfer = write_of known.file.select known.dst_offset known.size buffer_at in
    let before = moves_before its.items index w w.placed ++ skip_of known.file.select known.dst_offset ∷ [] in
    let within = slice_get_within w.script index entry known.command in
    let room = room_at its.items w.script index w.placed known.script.script within in
    let so_many = length-append (moves_before its.items index w w.placed) (skip_of known.file.select known.dst_offset ∷ []) in
    let spare : 0 < w.attached.device.spare = omega (arith, room, kept.room, ap length skipped.finished, so_many) in
    let can = can_put May its.items (items_now w) index (memory_of w).top w known in
    let starts = write_is_started a before descriptor_at transfer kept.device lawful skipped.idle spare skipped.finished can
    (sym skipped.selected) (sym skipped.offset) in
    let after : Attached = started descriptor_at next_write known.size buffer_at a in
    let goes : GoesOn a after = starts.1 in
    let writing : IsWriting (items_now w) number before descriptor_at transfer after =
    subst (λ (bytes : List ℕ). IsWriting (items_now w) bytes before descriptor_at transfer after) held starts.0 in
    let outside : StaysOutside (memory_of w) after.memory = λ address other.
    let beside = beside_work address other in
    ap (λ (n : Memory). at n address) starts.2
    ∙ others_with m descriptor_at (descriptor_bytes next_write known.size buffer_at) address lawful beside.0
    ∙ others_with (memory_of w) buffer_at number address kept.memory (beside_number address (length number) (omega (arith, size, few)) beside.1) in
    let next = going_on w after (AwaitsWrite index) in
    subst (λ (o : Option Entry). KeepsOn May its w (writes index o w)) (sym known.command)
    (kept_from May its w next kept
    (record { room = goes.room; opening = goes.opening; device = goes.device; memory = goes.memory; top = goes.top; fill = goes.fill })
    (written_items (items_now w) number before (memory_of w).top descriptor_at transfer after known.lawful.distinct can size (inl writing)) refl
    (λ address ram other beside. outside address other)
    (write_stands (items_now w) number before descriptor_at transfer after (inl writing)
    (started_address descriptor_at next_write known.size buffer_at a)) (
      items_now w,
      pointing_still May its.items (items_now w) index w after (AwaitsWrite index) (files_outside May its w after.memory kept outside) known,
      inl writing,
    ))

-- a write whose control word is zero is over
write_over : (items : List Item) (bytes : List ℕ) (before : List Finished) (descriptor : ℕ) (transfer : Finished) (a : Attached)
    → IsWriteAwaited items bytes before descriptor transfer a → (be (bytes_at a.memory descriptor 4) == 0) ≡ true
    → IsWritten items bytes before descriptor transfer a
write_over items bytes before descriptor transfer a awaited zero = elim awaited as (λ _. IsWritten items bytes before descriptor transfer a) [
  | inl writing ↦
      let word = word_written a.memory descriptor next_write transfer.length transfer.address writing.written (omega arith) in
      absurd (omega (arith, word, eqb-true (be (bytes_at a.memory descriptor 4)) 0 zero))
  | inr written ↦ written
]

-- what is written of it is what the run of the script makes of the files
files_written : (before : List Item) (w : LoadState) (dest src : List ℕ) (dst_offset src_offset size : ℕ) (file : Item) → AreDistinct before
    → named before dest ≡ Some file
    → items_now w ≡ with_bytes_at before file.select dst_offset (number_for w src src_offset size)
    → carried_out (WritePointer dest src dst_offset src_offset size) (with_places (at_files (files_of before) (files_now w) []) [])
    ≡ Some (progress_of w)
unfolding carried_out
files_written before w dest src dst_offset src_offset size file distinct there written =
    let files = files_of before in
    let number : ℕ → List ℕ = λ place. le_bytes size (place + src_offset) in
    let Files : List ℕ → List File = λ bytes. files_with files dest (put_at (bytes_of files dest) dst_offset bytes) in
    let place : place_in_run (files_now w) src ≡ place_of w.placed src = place_as_run (memory_of w) w.placed src in
    let are : files_of (items_now w) ≡ Files (number (place_in_run (files_now w) src)) =
    ap files_of written ∙ put_as_file before dest file dst_offset (number (place_of w.placed src)) distinct there
    ∙ ap (λ (n : ℕ). Files (number n)) (sym place) in
    ap (λ (fs : List File). Some (at_files fs (files_now w) [])) (sym are)

-- The firmware goes on behind it once it is over.
write_taken : (May : Answers) (its : Opening) (w : LoadState) (index : ℕ) (before : List Item) → KeepsNow May its w →
    (known : IsPointing May its.items before index w) → IsWritten before (number_for w known.src known.src_offset known.size)
    (moves_before its.items index w w.placed ++ skip_of known.file.select known.dst_offset ∷ []) descriptor_at
    (write_of known.file.select known.dst_offset known.size buffer_at) w.attached → KeepsOn May its w (passed index w)
write_taken May its w index before kept known written =
    let entry = WritePointer known.dest known.src known.dst_offset known.src_offset known.size in
    let skip = skip_of known.file.select known.dst_offset in
    let transfer = write_of known.file.select known.dst_offset known.size buffer_at in
    let front = moves_before its.items index w w.placed in
    let size = length-le_bytes known.size (place_of w.placed known.src + known.src_offset) in
    let can = can_put May its.items before index its.top w known in
    let shape : HaveOneShape its.items before =
    sym (written_items before (number_for w known.src known.src_offset known.size) (front ++ skip ∷ []) its.top descriptor_at transfer w.attached
    known.lawful.distinct can size (inr written)) ∙ kept.shape in
    let moved : command_moves its.items (entry ∷ []) [] ≡ skip ∷ transfer ∷ [] =
    append-nil (pointer_moves its.items known.dest known.dst_offset known.size)
    ∙ pointer_moves_are its.items before known.dest known.file known.dst_offset known.size shape known.there in
    let finished = moves_of_command May its.items index entry w (at_files (files_of before) (files_now w) []) known.command known.run
    (length-map w.placed (placed_in (memory_of w)))
    ∙ ap (λ (more : List Finished). front ++ more) moved ∙ sym (append_assoc front (skip ∷ []) (transfer ∷ [])) in
    let leads : LeadsOn May entry (at_files (files_of before) (files_now w) []) (progress_of w) =
    leads_from (
      known.goes,
      files_written before w known.dest known.src known.dst_offset known.src_offset known.size known.file known.lawful.distinct known.there written.put,
    ) in
    kept_with May its w w.listed w.script (AtCommand (suc index)) kept (
      record { listed = known.script.listed; script = known.script.script },
      (let within = slice_get_within w.script index entry known.command in omega arith),
      record { idle = written.idle; finished = written.finished ∙ sym finished },
      carried_more May its.items index entry w (progress_of w) known.command known.run leads (sym (ranges_in (memory_of w) w.placed)),
    )

pub write_taken_keeps : (May : Answers) (its : Opening) (w : LoadState) (index : ℕ) → KeepsNow May its w → StageKeeps May its.items w
    (AwaitsWrite index) → KeepsOn May its w (firmware_step (AwaitsWrite index) None w)
write_taken_keeps May its w index kept keeps =
    by_test (KeepsOn May its w) (is_over w) (passed index w) w
    (λ zero. write_taken May its w index keeps.0 kept keeps.1 (write_over _ _ _ descriptor_at _ w.attached keeps.2 zero))
    (λ waits. kept_waiting May its w kept)
