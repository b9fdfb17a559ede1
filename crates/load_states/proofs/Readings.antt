-- What the firmware takes of each reading once its read is over: what the load keeps is kept, and how the load goes on from there.
use Rattle.std.proofs.Common.{List, [], ◌++◌, ℕ, None, ◌≡◌, suc, ◌+◌, ◌-◌, ◌*◌, ◌/◌, ◌<◌, ◌≤◌, ◌==◌, not, if◌then◌else◌, length, Option, Some}
use Rattle.std.proofs.Common.{arith, refl, sym, ap, subst, ◌∙◌}
use Rattle.std.specs.Option.{option_map_or}
use Rattle.std.proofs.lemmas.Bool.{eqb-false}
use Rattle.cfg_directory.specs.declared.item.Item.{Item}
use Rattle.cfg_dma.specs.Reads.{IsOver}
use Rattle.command_acts.specs.Runs.{Answers}
use Rattle.load_states.specs.declared.reading.Reading.{Reading}
use Rattle.load_states.specs.declared.reading.Reading.TheVariants as read
use Rattle.load_states.specs.declared.stage.Stage.TheVariants.{Awaits, Asks, AtCommand, AwaitsSkip, AsksWrite, AwaitsWrite, Done, Refused}
use Rattle.load_states.specs.Guarded.{descriptor_at, buffer_size}
use Rattle.load_states.specs.LoadState.{LoadState, Opening, items_now, listed_named}
use Rattle.load_states.specs.Steps.{is_over, taken_of, firmware_step, asked, buffered, stage_for}
use Rattle.load_states.specs.Kept.{KeepsNow, StageKeeps, Knows, LoadRead, read_by, HasEntries, HasCommands, with_entries, with_commands}
use Rattle.vt_bytes.specs.Numbers.{be}
use Rattle.cfg_directory.specs.declared.listed.Listed.{Listed}
use Rattle.cfg_directory.specs.Items.{named}
use Rattle.loader_script.specs.LoaderName.{loader_name}
use Rattle.std.proofs.lemmas.Option.{slice_get_within}
use Rattle.loader_script.specs.declared.entry.Entry.TheVariants.{Allocate}
use Rattle.loader_script.specs.Spelling.{is_script_length}
use Rattle.cfg_directory.specs.Listing.{listed_in}
use Rattle.command_acts.specs.declared.fault.LoadFault.{LoadFault}
use Rattle.command_acts.specs.declared.fault.LoadFault.TheVariants.{NoScript, ScriptLength, Command, NoRoom}
use Rattle.load_states.specs.declared.stage.Stage.{Stage}
use Rattle.load_states.specs.Loads.{most_steps}
use Rattle.load_states.specs.Moves.{count_read, piece_read, pieces_of, script_size}
use Rattle.load_states.proofs.Known.{word_of}
use Rattle.load_states.proofs.Looks.{by_test, over_now, kept_waiting}
use Rattle.load_states.proofs.CountRead.{count_taken}
use Rattle.load_states.proofs.EntriesRead.{entries_are_taken}
use Rattle.load_states.proofs.ScriptRead.{commands_are_taken}
use Rattle.load_states.proofs.FileRead.{file_is_there}
use Rattle.load_states.proofs.Counting.{piece_below}
use Rattle.load_states.proofs.CommandMoves.{script_long}
use Rattle.load_states.proofs.PieceSizes.{another_piece}
use Rattle.load_states.proofs.Frames.{KeepsOn}

-- a load's read is over
abbrev pub IsReadOver : LoadRead → LoadState → Type 0
IsReadOver r w = IsOver (items_now w) r.before descriptor_at r.transfer w.attached

-- what is taken of it
taken_keeps : (May : Answers) (its : Opening) (w : LoadState) (reading : Reading) → KeepsNow May its w → (known : Knows May its.items w reading)
    → IsReadOver (read_by May its.items w reading known) w → KeepsOn May its w (taken_of reading w)
taken_keeps May its w read.Count kept known over =
    count_taken May its w kept known (subst (λ (is : List Item). IsOver is [] descriptor_at count_read w.attached) known.begun over)
taken_keeps May its w (read.Entries size taken) kept known over =
    entries_are_taken May its w size taken kept known
    (subst (λ (is : List Item). IsOver is (with_entries size known.pieces) descriptor_at (piece_read 0x19 4 size known.pieces) w.attached) known.begun
    over)
taken_keeps May its w (read.Commands select size taken) kept known over =
    commands_are_taken May its w select size taken kept known
    (subst (λ (is : List Item). IsOver is (with_commands its.items select size known.pieces) descriptor_at (piece_read select 0 size known.pieces) w.attached)
    known.begun over)
taken_keeps May its w (read.File index) kept known over = file_is_there May its w index kept known over

-- The firmware takes it where it is over, and else waits.
pub awaits_keeps : (May : Answers) (its : Opening) (w : LoadState) (reading : Reading) → KeepsNow May its w → StageKeeps May its.items w
    (Awaits reading) → KeepsOn May its w (firmware_step (Awaits reading) None w)
awaits_keeps May its w reading kept keeps =
    let known = keeps.0 in
    let r = read_by May its.items w reading known in
    let word = word_of May its.items w reading kept.lawful kept.device.items known in
    by_test (KeepsOn May its w) (is_over w) (taken_of reading w) w
    (λ zero. taken_keeps May its w reading kept known
    (over_now (items_now w) r.before descriptor_at r.control r.transfer w.attached word.0 word.1 keeps.1 zero))
    (λ still. kept_waiting May its w kept)

-- ---- the steps that are left

-- the steps that are left from the first piece of the script on, where so many are taken, and from a command on
abbrev pub left_of_script : ℕ → ℕ → ℕ
left_of_script size taken = 1 + 4 * (size / 128) + 2 * (pieces_of size - taken / buffer_size)

abbrev pub left_from_command : ℕ → ℕ → ℕ
left_from_command size index = 1 + 4 * (size / 128 - index)

-- How many steps of the firmware are left at most where something is asked for: two for each read, and those behind it.
abbrev pub left_of_reading : List Item → Reading → ℕ
left_of_reading items read.Count = most_steps items
left_of_reading items (read.Entries size taken) =
    left_of_script (script_size items) 0 + 2 * (pieces_of (64 * length items) - taken / buffer_size)
left_of_reading items (read.Commands select size taken) = left_of_script (script_size items) taken
left_of_reading items (read.File index) = left_from_command (script_size items) index

-- and at each stage
abbrev pub steps_left : List Item → Stage → ℕ
steps_left items (Asks reading) = left_of_reading items reading
steps_left items (Awaits reading) = left_of_reading items reading - 1
steps_left items (AtCommand index) = left_from_command (script_size items) index
steps_left items (AwaitsSkip index) = left_from_command (script_size items) index - 1
steps_left items (AsksWrite index) = left_from_command (script_size items) index - 2
steps_left items (AwaitsWrite index) = left_from_command (script_size items) index - 3
steps_left items Done = 0
steps_left items (Refused why) = 0

-- A step that goes on takes one of them.
abbrev pub Goes : List Item → Stage → Stage → Type 0
Goes items before after = steps_left items after + 1 ≤ steps_left items before

-- the number of files was taken
count_goes : (items : List Item) (count : ℕ) → Goes items (Awaits read.Count) (if count == 0 then Refused NoScript else Asks (read.Entries (64 * count) 0))
count_goes items count = by_test (Goes items (Awaits read.Count)) (count == 0) (Refused NoScript) (Asks (read.Entries (64 * count) 0))
    (λ zero. omega arith) (λ some. omega arith)

-- all entries were taken
found_goes : (items : List Item) (found : Option Listed) → steps_left items (stage_for found) ≤ left_of_script (script_size items) 0
found_goes items None = omega arith
found_goes items (Some file) =
    by_test (λ (s : Stage). steps_left items s ≤ left_of_script (script_size items) 0) (not (is_script_length file.size)) (Refused ScriptLength)
    (if file.size == 0 then AtCommand 0 else Asks (read.Commands file.select file.size 0)) (λ bad. omega arith)
    (λ good. by_test (λ (s : Stage). steps_left items s ≤ left_of_script (script_size items) 0) (file.size == 0) (AtCommand 0)
    (Asks (read.Commands file.select file.size 0))
    (λ empty. omega arith) (λ some. omega arith))

-- entries were taken
entries_go : (items : List Item) (size taken : ℕ) (w : LoadState) (found : Option Listed) → HasEntries items size taken w
    → Goes items (Awaits (read.Entries size taken)) (if taken + asked (size - taken) == size then stage_for found else Asks
    (read.Entries size (taken + asked (size - taken))))
entries_go items size taken w found has =
    let below : has.pieces < pieces_of size = piece_below size has.pieces (omega (arith, has.taken_is, has.some_left)) in
    let all : pieces_of (64 * length items) ≡ pieces_of size = ap pieces_of (sym has.size_is) in
    let here : taken / buffer_size ≡ has.pieces = omega (arith, has.taken_is) in
    by_test (Goes items (Awaits (read.Entries size taken))) (taken + asked (size - taken) == size) (stage_for found)
    (Asks (read.Entries size (taken + asked (size - taken))))
    (λ last. omega (arith, found_goes items found, below, all, here))
    (λ more.
    let another = another_piece size taken has.pieces has.taken_is has.some_left (eqb-false _ _ more) in
    let next : (taken + asked (size - taken)) / buffer_size ≡ suc has.pieces = omega (arith, another.taken_is) in
    omega (arith, below, all, here, next))

-- the script is as long as its item
pub script_size_is : (items : List Item) (loader : Item) → named items loader_name ≡ Some loader → script_size items ≡ length loader.bytes
script_size_is items loader there = ap (λ (o : Option Item). option_map_or (λ (item : Item). length item.bytes) o 0) there

-- commands were taken
commands_go : (items : List Item) (select size taken : ℕ) (w : LoadState) → HasCommands items select size taken w
    → Goes items (Awaits (read.Commands select size taken))
    (if taken + asked (size - taken) == size then AtCommand 0 else Asks (read.Commands select size (taken + asked (size - taken))))
commands_go items select size taken w has =
    let below : has.pieces < pieces_of size = piece_below size has.pieces (omega (arith, has.taken_is, has.some_left)) in
    let whole : script_size items ≡ size = script_size_is items has.loader has.there ∙ sym has.size_is in
    let all : pieces_of (script_size items) ≡ pieces_of size = ap pieces_of whole in
    let here : taken / buffer_size ≡ has.pieces = omega (arith, has.taken_is) in
    by_test (Goes items (Awaits (read.Commands select size taken))) (taken + asked (size - taken) == size) (AtCommand 0)
    (Asks (read.Commands select size (taken + asked (size - taken))))
    (λ last. omega (arith, below, all, here))
    (λ more.
    let another = another_piece size taken has.pieces has.taken_is has.some_left (eqb-false _ _ more) in
    let next : (taken + asked (size - taken)) / buffer_size ≡ suc has.pieces = omega (arith, another.taken_is) in
    omega (arith, below, all, here, next))

-- some steps are left where something is asked for
pub some_left : (items : List Item) (reading : Reading) → Goes items (Asks reading) (Awaits reading)
some_left items read.Count = omega arith
some_left items (read.Entries size taken) = omega arith
some_left items (read.Commands select size taken) = omega arith
some_left items (read.File index) = omega arith

-- what is taken of a read goes on
pub taken_goes : (May : Answers) (items : List Item) (w : LoadState) (reading : Reading) → Knows May items w reading
    → Goes items (Awaits reading) (taken_of reading w).stage
taken_goes May items w read.Count known = count_goes items (be (buffered 4 w))
taken_goes May items w (read.Entries size taken) known =
    entries_go items size taken w
    (listed_named (w.listed ++ listed_in (asked (size - taken) / 64) (buffered (asked (size - taken)) w)) loader_name) known
taken_goes May items w (read.Commands select size taken) known = commands_go items select size taken w known
taken_goes May items w (read.File index) known =
    let long = script_long items w.script known.script.script in
    omega (arith, long, slice_get_within w.script index (Allocate known.last.name known.align known.zone) known.command)

-- No reading has more of them left than the first.
pub reading_most : (items : List Item) (reading : Reading) → left_of_reading items reading ≤ most_steps items
reading_most items read.Count = omega arith
reading_most items (read.Entries size taken) = omega arith
reading_most items (read.Commands select size taken) = omega arith
reading_most items (read.File index) = omega arith

-- ---- a load that ends without room

-- the command at which a load has ended without room
abbrev pub without_room : LoadFault → Option ℕ
without_room NoScript = None
without_room ScriptLength = None
without_room (Command index cause) = None
without_room (NoRoom index) = Some index

abbrev pub no_room_of : Stage → Option ℕ
no_room_of (Refused why) = without_room why
no_room_of (Asks reading) = None
no_room_of (Awaits reading) = None
no_room_of (AtCommand index) = None
no_room_of (AwaitsSkip index) = None
no_room_of (AsksWrite index) = None
no_room_of (AwaitsWrite index) = None
no_room_of Done = None

-- a stage that isn't without room
abbrev pub HasRoom : Stage → Type 0
HasRoom s = no_room_of s ≡ None

found_has_room : (found : Option Listed) → HasRoom (stage_for found)
found_has_room None = refl
found_has_room (Some file) =
    by_test HasRoom (not (is_script_length file.size)) (Refused ScriptLength)
    (if file.size == 0 then AtCommand 0 else Asks (read.Commands file.select file.size 0))
    (λ bad. refl) (λ good. by_test HasRoom (file.size == 0) (AtCommand 0) (Asks (read.Commands file.select file.size 0)) (λ empty. refl) (λ some. refl))

entries_have_room : (size taken : ℕ) (found : Option Listed) → HasRoom (if taken == size then stage_for found else Asks (read.Entries size taken))
entries_have_room size taken found =
    by_test HasRoom (taken == size) (stage_for found) (Asks (read.Entries size taken)) (λ last. found_has_room found) (λ more. refl)

-- what is taken of a read leads to no stage without room
pub taken_has_room : (reading : Reading) (w : LoadState) → HasRoom (taken_of reading w).stage
taken_has_room read.Count w =
    by_test HasRoom (be (buffered 4 w) == 0) (Refused NoScript) (Asks (read.Entries (64 * be (buffered 4 w)) 0)) (λ zero. refl) (λ some. refl)
taken_has_room (read.Entries size taken) w =
    entries_have_room size (taken + asked (size - taken))
    (listed_named (w.listed ++ listed_in (asked (size - taken) / 64) (buffered (asked (size - taken)) w)) loader_name)
taken_has_room (read.Commands select size taken) w =
    by_test HasRoom (taken + asked (size - taken) == size) (AtCommand 0) (Asks (read.Commands select size (taken + asked (size - taken)))) (λ last. refl)
    (λ more. refl)
taken_has_room (read.File index) w = refl
