-- What the calls of a step of the firmware require, by what the load keeps at its stage.
use Rattle.std.proofs.Common.{◌≡◌, ℕ, zero, suc, ◌+◌, ◌-◌, ◌/◌, ◌%◌, ◌^◌, ◌<◌, ◌≤◌, true, List, [], ◌∷◌, length, take, drop, slice_get, Option, Some}
use Rattle.std.proofs.Common.{None, IsSome, Result, Ok, IfOk}
use Rattle.std.proofs.Common.{inl, inr, arith, refl, sym, ap, subst, ◌∙◌, length-append, length-take}
use Rattle.std.proofs.lemmas.List.{take_at, take_all}
use Rattle.std.specs.Option.{option_map_or}
use Rattle.std.proofs.lemmas.Option.{slice_get_within, same_Some, none-some}
use Rattle.vt_bytes.specs.Numbers.{be, be_bytes}
use Rattle.vt_bytes.specs.Parts.{part}
use Rattle.vt_bytes.proofs.Bytes.{length-bytes_at}
use Rattle.cfg_directory.specs.declared.item.Item.{Item}
use Rattle.cfg_directory.specs.Items.{IsItems, named}
use Rattle.loader_script.specs.LoaderName.{loader_name}
use Rattle.cfg_directory.specs.Listing.{entries_of}
use Rattle.cfg_directory.proofs.Listings.{count_of_files}
use Rattle.cfg_directory.proofs.Shapes.{same_listed}
use Rattle.loader_script.specs.declared.entry.Entry.{Entry}
use Rattle.loader_script.specs.declared.entry.Entry.TheVariants.{Allocate, AddPointer, AddChecksum, WritePointer, Misnamed, Skipped}
use Rattle.loader_script.specs.Run.{Placed}
use Rattle.cfg_dma.specs.Writes.{skip_of}
use Rattle.command_acts.specs.FilesInMemory.{IsLoading, placed_named, place_of}
use Rattle.cfg_directory.specs.Files.{files_of}
use Rattle.command_acts.proofs.Decoded.{script_short}
use Rattle.command_acts.proofs.NamedInMemory.{some_named}
use Rattle.load_states.specs.Runs.{AnyLawful}
use Rattle.load_states.proofs.CommandMoves.{room_at}
use Rattle.load_states.proofs.Pointing.{can_point, place_as_run}
use Rattle.vt_layout.specs.Rows.{IsPointerSize}
use Rattle.load_states.proofs.Shaped.{same_infos}
use Rattle.loader_script.specs.Spelling.{entries_of as commands_of}
use Rattle.cfg_dma.specs.declared.transfer.Finished.{Finished}
use Rattle.cfg_dma.specs.Reads.{IsOver}
use Rattle.command_acts.specs.Runs.{Answers}
use Rattle.command_acts.specs.declared.fault.LoadFault.{LoadFault}
use Rattle.command_acts.specs.Script.{script_in, script_from}
use Rattle.load_states.specs.declared.stage.Stage.{Stage}
use Rattle.load_states.specs.declared.reading.Reading.{Reading}
use Rattle.load_states.specs.declared.stage.Stage.TheVariants.{Asks, Awaits, AtCommand, AsksWrite, AwaitsWrite}
use Rattle.load_states.specs.Guarded.{descriptor_at, buffer_at}
use Rattle.load_states.specs.LoadState.{LoadState, Opening, memory_of, items_now}
use Rattle.load_states.specs.Steps.{asked, buffered, is_over}
use Rattle.load_states.specs.Moves.{most_transfers, count_read}
use Rattle.load_states.specs.Kept.{KeepsNow, IsIdle, StageKeeps, HasScript, HasCommands, IsComing, Knows, read_by, moves_before}
use Rattle.load_states.proofs.Known.{few_before, word_of}
use Rattle.load_states.proofs.Readings.{IsReadOver}
use Rattle.load_states.proofs.Looks.{over_now}
use Rattle.load_states.proofs.NamedItems.{contents_listed}
use Rattle.load_states.proofs.PartsDecoded.{script_is, script_whole}
use Rattle.load_states.proofs.PieceSizes.{commands_piece}
use Rattle.firmware_load.specs.declared.loading.Loading.{Loading}
use Rattle.firmware_load.specs.Inside.{load_of, KeepsInside, IsReady}
use Rattle.command_acts.specs.Placing.{ArePlacements}
use Rattle.loader_script.specs.Refusal.{AreDistinct}
use Rattle.firmware_load.proofs.Allocating.{distinct_placements}

-- what holds at the stage that a load is at
abbrev at_stage : {May : Answers} {its : Opening} {w : LoadState} {stage : Stage}
    → KeepsNow May its w → w.stage ≡ stage → StageKeeps May its.items w stage
at_stage {May} {its} {w} kept is = subst (StageKeeps May its.items w) is kept.stage

-- ---- stages that ask

-- there is room for one more transfer where fewer are over than a load makes at most
room_left : {May : Answers} {its : Opening} {w : LoadState} {before : List Finished}
    → KeepsNow May its w → IsIdle w before → length before < most_transfers its.items → 0 < w.attached.device.spare
room_left kept idle few = omega (arith, kept.room, few, ap length idle.finished)

-- so there is for a read that is asked for
pub reading_starts : {May : Answers} {its : Opening} {w : LoadState} {reading : Reading}
    → KeepsNow May its w → w.stage ≡ Asks reading → 0 < w.attached.device.spare
reading_starts {May} {its} {w} {reading} kept is =
    let keeps = at_stage kept is in room_left kept keeps.1.1.idle (few_before May its.items w reading keeps.0 keeps.1.0)

-- ---- stages that await

-- what is known while a read is awaited
abbrev pub known_at : {May : Answers} {its : Opening} {w : LoadState} {reading : Reading}
    → KeepsNow May its w → w.stage ≡ Awaits reading → Knows May its.items w reading
known_at kept is = (at_stage kept is).0

-- and the read is over, once a look at the control word has found it zero
pub over_at : {May : Answers} {its : Opening} {w : LoadState} {reading : Reading}
    → (kept : KeepsNow May its w) → (is : w.stage ≡ Awaits reading) → is_over w ≡ true
    → IsReadOver (read_by May its.items w reading (known_at kept is)) w
over_at {May} {its} {w} {reading} kept is cleared =
    let keeps = at_stage kept is in
    let r = read_by May its.items w reading keeps.0 in
    let word = word_of May its.items w reading kept.lawful kept.device.items keeps.0 in
    over_now (items_now w) r.before descriptor_at r.control r.transfer w.attached word.0 word.1 keeps.1 cleared

-- the number of files is at most 1,024
count_few : (items : List Item) (w : LoadState) → IsItems items → IsOver items [] descriptor_at count_read w.attached → be (buffered 4 w) ≤ 1024
count_few items w lawful over =
    let held : be (buffered 4 w) ≡ length items =
    ap be (over.held ∙ ap (λ (bytes : List ℕ). part bytes 0 4) (contents_listed items)
    ∙ take_at (be_bytes 4 (length items)) (entries_of items) 4 refl)
    ∙ count_of_files items lawful in
    omega (arith, held, lawful.few)

-- so is a number that was read from the buffer
pub count_small : (items : List Item) (w : LoadState) (bytes : List ℕ) (count : ℕ) → IsItems items
    → IsOver items [] descriptor_at count_read w.attached → bytes ≡ buffered 4 w → count ≡ be (take 4 bytes) → count ≤ 1024
count_small items w bytes count lawful over held read =
    let long : length bytes ≤ 4 = omega (arith, ap length held, length-bytes_at (memory_of w) buffer_at 4) in
    omega (arith, count_few items w lawful over, read ∙ ap be (take_all 4 bytes long ∙ held))

-- so many commands are as many
length-commands : (count : ℕ) (bytes : List ℕ) → length (commands_of count bytes) ≡ count
length-commands zero bytes = refl
length-commands (suc count) bytes = ap suc (length-commands count (drop 128 bytes))

-- a script has a command for each 128 bytes, and so has its file a length
record IsWhole (size : ℕ) (whole : List Entry) : Type 0 where
  pub rows : size % 128 ≡ 0
  pub many : length whole ≡ size / 128

-- the script of items, in the file that has its name
script_whole_in : (items : List Item) (loader : Item) (size : ℕ) (whole : List Entry) → named items loader_name ≡ Some loader
    → size ≡ length loader.bytes → script_in items ≡ Ok whole → IsWhole size whole
script_whole_in items loader size whole there size_is decoded =
    let script = script_is loader.bytes whole (sym (ap script_from there) ∙ decoded) in
    let rows : length loader.bytes % 128 ≡ 0 = script_whole (length loader.bytes) script.lawful in
    record {
      rows = omega (arith, rows, size_is);
      many = ap length (sym script.are) ∙ length-commands (length loader.bytes / 128) loader.bytes ∙ ap (λ n. n / 128) (sym size_is);
    }

-- What a step needs that takes commands: they are whole, some, and there is room for them.
pub record CommandsFit (size taken room : ℕ) (before : List Entry) : Type 0 where
  pub some_left : taken < size
  pub rows : asked (size - taken) % 128 ≡ 0
  pub fit : length before + asked (size - taken) / 128 ≤ room

-- There is room for the commands that were read, where there is room for the whole script.
pub commands_fit : {items : List Item} {w : LoadState} {select size taken room : ℕ} → HasCommands items select size taken w
    → IfOk (script_in items) (λ script. length script ≤ room) → CommandsFit size taken room w.script
commands_fit {items} {w} {select} {size} {taken} {room} has rooms =
    let whole = script_whole_in items has.loader size has.whole has.there has.size_is has.whole_is in
    let piece = commands_piece size taken has.pieces has.taken_is whole.rows has.some_left in
    let within : length has.whole ≤ room =
    subst (λ (script : Result (List Entry) LoadFault). IfOk script (λ script. length script ≤ room)) has.whole_is rooms in
    record {
      some_left = has.some_left;
      rows = omega (arith, piece.now);
      fit = omega (arith, ap length has.script, length-take (taken / 128) has.whole, piece.within, whole.many, within);
    }

-- ---- stages of the script's run

-- the index of a command is small
pub command_small : {May : Answers} {its : Opening} {w : LoadState} {index : ℕ}
    → KeepsNow May its w → w.stage ≡ AtCommand index → index ≤ 8192
command_small {May} {its} {w} {index} kept is =
    let keeps = at_stage kept is in omega (arith, script_short its.items w.script keeps.0.script, keeps.1)

-- so is that of one that is there
there_small : (items : List Item) (w : LoadState) (index : ℕ) (entry : Entry) → HasScript items w → slice_get w.script index ≡ Some entry → index < 8192
there_small items w index entry has there =
    omega (arith, script_short items w.script has.script, slice_get_within w.script index entry there)

-- and of one whose file is awaited, or whose write
pub file_small : {May : Answers} {items : List Item} {w : LoadState} {index : ℕ} → IsComing May items index w → index < 8192
file_small {May} {items} {w} {index} coming =
    there_small items w index (Allocate coming.last.name coming.align coming.zone) coming.script coming.command

pub write_small : {May : Answers} {its : Opening} {w : LoadState} {index : ℕ}
    → KeepsNow May its w → w.stage ≡ AwaitsWrite index → index < 8192
write_small {May} {its} {w} {index} kept is =
    let known = (at_stage kept is).1 in
    there_small its.items w index (WritePointer known.dest known.src known.dst_offset known.src_offset known.size) known.script known.command

-- there is room for a transfer more, and for another one
spare_left : {May : Answers} {its : Opening} {w : LoadState} (index : ℕ) (entry : Entry)
    → KeepsNow May its w → HasScript its.items w → slice_get w.script index ≡ Some entry
    → length w.attached.device.finished ≤ length (moves_before its.items index w w.placed) + 1 → 0 < w.attached.device.spare
spare_left {May} {its} {w} index entry kept has there few =
    omega (arith, kept.room, few, room_at its.items w.script index w.placed has.script (slice_get_within w.script index entry there))

-- A guest is ready for the command that its firmware is at.
pub is_ready : (l : Loading) (index : ℕ) (entry : Entry) → KeepsInside l → l.stage ≡ AtCommand index → slice_get l.script.items index ≡ Some entry
    → IsReady l.guest l.listed.items
is_ready l index entry inside is found =
    let items : List Item = inside.0.items in
    let kept = inside.1.kept in
    let keeps = at_stage kept is in
    record {
      top = kept.memory.top;
      items = kept.device.items;
      listed_are = keeps.0.listed ∙ sym (same_listed items l.guest.device.items kept.shape);
      infos = inside.1.rooms.infos ∙ sym (same_infos items l.guest.device.items kept.shape);
      placements = inside.1.rooms.placements;
      loading = subst (λ top. IsLoading top (files_of l.guest.device.items) l.guest.placements.placed.items) (sym kept.top) kept.loading;
      idle = keeps.2.idle;
      room = spare_left index entry kept keeps.0 found (omega (arith, ap length keeps.2.finished));
    }

-- a number that points is below 2^64
pub pointer_small : (size : ℕ) → IsPointerSize size → 256 ^ size ≤ 2 ^ 64
pointer_small size (inl one) = subst (λ n. 256 ^ n ≤ 2 ^ 64) (sym one) (omega arith)
pointer_small size (inr (inl two)) = subst (λ n. 256 ^ n ≤ 2 ^ 64) (sym two) (omega arith)
pointer_small size (inr (inr (inl four))) = subst (λ n. 256 ^ n ≤ 2 ^ 64) (sym four) (omega arith)
pointer_small size (inr (inr (inr eight))) = subst (λ n. 256 ^ n ≤ 2 ^ 64) (sym eight) (omega arith)

-- What a firmware needs that asks for the write of a WritePointer: no transfer is in flight, and there is room for one; the names of the files
-- differ, the file whose place it writes is placed, and the number fits.
pub record CanWriteNumber (l : Loading) (src : List ℕ) (src_offset size : ℕ) : Type 0 where
  pub idle : l.guest.device.flight ≡ None
  pub room : 0 < l.guest.device.spare
  pub are : ArePlacements l.guest.placements
  pub distinct : AreDistinct l.guest.placements.infos.items
  pub placed : IsSome (placed_named l.guest.placements.placed.items src)
  pub size_is : IsPointerSize size
  pub fits : place_of l.guest.placements.placed.items src + src_offset < 256 ^ size

-- a command is a WritePointer
abbrev pub IsPointer : Entry → Type 0
IsPointer (WritePointer dest src dst_offset src_offset size) = Unit {0}
IsPointer (Allocate name align zone) = ⊥
IsPointer (AddPointer dest src offset size) = ⊥
IsPointer (AddChecksum name offset start count) = ⊥
IsPointer (Misnamed command) = ⊥
IsPointer (Skipped command) = ⊥

-- a command that is there
abbrev command_there : Entry → Option Entry
command_there entry = Some entry

-- two commands of this kind
same_pointer : (dest dest_there src src_there : List ℕ) (dst_offset dst_there src_offset src_offset_there size size_there : ℕ)
    → command_there (WritePointer dest_there src_there dst_there src_offset_there size_there) ≡ command_there (WritePointer dest src dst_offset src_offset size)
    → (src_there ≡ src) × (src_offset_there ≡ src_offset) × (size_there ≡ size)
same_pointer dest dest_there src src_there dst_offset dst_there src_offset src_offset_there size size_there is = (cc, cc, cc)

-- a command that is there where the firmware asks for a write is a WritePointer
pub asks_pointer : (l : Loading) (index : ℕ) (entry : Entry) → KeepsInside l → l.stage ≡ AsksWrite index
    → slice_get l.script.items index ≡ Some entry → IsPointer entry
asks_pointer l index entry inside is found =
    let known = (at_stage inside.1.kept is).0 in subst IsPointer (same_Some _ entry (sym known.command ∙ found)) tt

-- and there is one
pub asks_some : {A : Type 0} (l : Loading) (index : ℕ) → KeepsInside l → l.stage ≡ AsksWrite index → slice_get l.script.items index ≡ None → A
asks_some l index inside is none = let known = (at_stage inside.1.kept is).0 in absurd (none-some _ (sym none ∙ known.command))

-- it can be written where the firmware asks for its write
pub can_write_number : (l : Loading) (index : ℕ) (dest src : List ℕ) (dst_offset src_offset size : ℕ) → KeepsInside l → l.stage ≡ AsksWrite index
    → slice_get l.script.items index ≡ Some (WritePointer dest src dst_offset src_offset size) → CanWriteNumber l src src_offset size
can_write_number l index dest src dst_offset src_offset size inside is found =
    let items : List Item = inside.0.items in
    let May = AnyLawful inside.0.top in
    let w = load_of l in
    let placed = l.guest.placements.placed.items in
    let keeps = at_stage inside.1.kept is in
    let known = keeps.0 in
    let skipped = keeps.1 in
    let can = can_point May items (items_now w) index w known in
    let same = same_pointer dest known.dest src known.src dst_offset known.dst_offset src_offset known.src_offset size known.size (sym known.command ∙ found) in
    let stands : IsSome (placed_named placed known.src) = some_named l.guest.memory.memory placed known.src (subst IsSome (sym can.source_placed) refl) in
    let place : place_of placed known.src ≡ can.s.place =
    sym (place_as_run l.guest.memory.memory placed known.src)
    ∙ ap (λ (o : Option Placed). option_map_or (λ (p : Placed). p.place) o 0) can.source_placed in
    let fits : place_of placed known.src + known.src_offset < 256 ^ known.size =
    subst (λ (n : ℕ). n + known.src_offset < 256 ^ known.size) (sym place) can.fits in
    record {
      idle = skipped.idle;
      room = spare_left index (WritePointer dest src dst_offset src_offset size) inside.1.kept known.script found
          (omega (
            arith,
            ap length skipped.finished,
            length-append (moves_before items index w w.placed) (skip_of known.file.select known.dst_offset ∷ []),
          ));
      are = inside.1.rooms.placements;
      distinct = distinct_placements l.guest.placements inside.0.items inside.1.kept.lawful inside.1.rooms.infos;
      placed = subst (λ (name : List ℕ). IsSome (placed_named placed name)) same.0 stands;
      size_is = subst IsPointerSize same.2 can.sized;
      fits = rw (same.0, same.1, same.2) at fits;
    }
