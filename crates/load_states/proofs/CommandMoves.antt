-- The transfers of the commands that are carried out, one command after the other.
use Rattle.std.proofs.Common.{◌≡◌, ℕ, suc, ◌+◌, ◌*◌, ◌/◌, ◌<◌, ◌≤◌, List, [], ◌∷◌, ◌++◌, length, take, slice_get, Option, Some, None, Result, Ok}
use Rattle.std.proofs.Common.{arith, refl, ap, sym, subst, ◌∙◌, length-append, append_assoc}
use Rattle.std.specs.Prelude.{IfOk}
use Rattle.std.specs.Option.{option_map_or}
use Rattle.std.proofs.lemmas.List.{length-take, length-map, append-nil}
use Rattle.std.proofs.lemmas.Option.{none-some, slice_get_within, get_or_from_slice_get}
use Rattle.std.proofs.Math.Seq.{take-suc}
use Rattle.cfg_directory.specs.declared.item.Item.{Item}
use Rattle.cfg_directory.specs.Items.{named}
use Rattle.cfg_directory.specs.Shapes.{Shape, HaveOneShape}
use Rattle.cfg_directory.proofs.Shapes.{same_named}
use Rattle.loader_script.specs.LoaderName.{loader_name}
use Rattle.loader_script.specs.declared.entry.Entry.{Entry}
use Rattle.loader_script.specs.declared.entry.Entry.TheVariants.{Allocate, AddPointer, AddChecksum, WritePointer, Misnamed, Skipped}
use Rattle.loader_script.specs.Run.{Placed, Progress, End, Done, carried_out}
use Rattle.cfg_dma.specs.declared.transfer.Finished.{Finished}
use Rattle.cfg_dma.specs.Reads.{read_of}
use Rattle.cfg_dma.specs.Writes.{skip_of, write_of}
use Rattle.command_acts.specs.declared.fault.LoadFault.{LoadFault}
use Rattle.command_acts.specs.declared.placed.PlacedFile.{PlacedFile}
use Rattle.command_acts.specs.Runs.{Answers, EndsWith, done, refused, without_room, allocated, carried, placed_at, with_places}
use Rattle.command_acts.specs.Script.{script_in, script_from}
use Rattle.command_acts.proofs.Decoded.{length-entries, script_short}
use Rattle.command_acts.proofs.PlainRuns.{carried_any, places_of_placed}
use Rattle.load_states.specs.Guarded.{buffer_at}
use Rattle.load_states.specs.LoadState.{LoadState}
use Rattle.load_states.specs.Moves.{directory_reads, script_reads, script_size, file_read, pointer_moves, command_moves, moves, most_transfers}
use Rattle.load_states.specs.Kept.{HasCarriedOut, moves_before}
use Rattle.load_states.proofs.PartsDecoded.{script_is}

-- ---- how many files are placed

-- how many of the commands are Allocates
abbrev allocates : List Entry → ℕ
allocates [] = 0
allocates (Allocate name align zone ∷ commands) = suc (allocates commands)
allocates (AddPointer dest src offset size ∷ commands) = allocates commands
allocates (AddChecksum name offset start count ∷ commands) = allocates commands
allocates (WritePointer dest src dst_offset src_offset size ∷ commands) = allocates commands
allocates (Misnamed command ∷ commands) = allocates commands
allocates (Skipped command ∷ commands) = allocates commands

-- a command that takes no place is none
takes_none : (entry : Entry) (commands : List Entry) (p next : Progress) → carried_out entry (with_places p []) ≡ Some next
    → allocates (entry ∷ commands) ≡ allocates commands
unfolding carried_out
takes_none (Allocate name align zone) commands p next goes = absurd (none-some next goes)
takes_none (AddPointer dest src offset size) commands p next goes = refl
takes_none (AddChecksum name offset start count) commands p next goes = refl
takes_none (WritePointer dest src dst_offset src_offset size) commands p next goes = refl
takes_none (Misnamed command) commands p next goes = refl
takes_none (Skipped command) commands p next goes = refl

-- files that stand at as many places are as many
as_many : (a b : List Placed) → places_of_placed a ≡ places_of_placed b → length a ≡ length b
as_many a b same =
    sym (length-map a (λ (p : Placed). p.place)) ∙ ap length same ∙ length-map b (λ (p : Placed). p.place)

-- a run that is done has placed a file for each
so_many_placed : {May : Answers} {index : ℕ} {script : List Entry} {p final : Progress} {end : End} → EndsWith May index script p end final → end ≡ Done
    → length final.placed ≡ length p.placed + allocates script
so_many_placed done is = omega arith
so_many_placed (refused why) is = absurd (cc)
so_many_placed (without_room none may) is = absurd (cc)
so_many_placed {p = p} (allocated {name = name} place none may rest) is =
    omega (arith, so_many_placed rest is, length-append p.placed (placed_at p.files name place ∷ []))
so_many_placed {p = p} (carried {entry = entry} {script = script} {next = next} none goes rest) is =
    omega (
      arith,
      so_many_placed rest is,
      as_many next.placed p.placed (carried_any entry p next [] goes).stand,
      takes_none entry script p next goes,
    )

-- as many as those of both parts
allocates_parts : (front rest : List Entry) → allocates (front ++ rest) ≡ allocates front + allocates rest
allocates_parts [] rest = omega arith
allocates_parts (Allocate name align zone ∷ front) rest = omega (arith, allocates_parts front rest)
allocates_parts (AddPointer dest src offset size ∷ front) rest = allocates_parts front rest
allocates_parts (AddChecksum name offset start count ∷ front) rest = allocates_parts front rest
allocates_parts (WritePointer dest src dst_offset src_offset size ∷ front) rest = allocates_parts front rest
allocates_parts (Misnamed command ∷ front) rest = allocates_parts front rest
allocates_parts (Skipped command ∷ front) rest = allocates_parts front rest

-- so have the commands that were carried out
carried_placed : (May : Answers) (items : List Item) (count : ℕ) (p : Progress) (w : LoadState) → HasCarriedOut May items count p w
    → allocates (take count w.script) ≡ length p.placed
carried_placed May items count p w run = omega (arith, so_many_placed run.answered refl)

-- the first commands and one more
one_more_taken : (script : List Entry) (index : ℕ) (entry : Entry) → slice_get script index ≡ Some entry
    → take (suc index) script ≡ take index script ++ entry ∷ []
one_more_taken script index entry there =
    take-suc script index entry (slice_get_within script index entry there)
    ∙ ap (λ (e : Entry). take index script ++ e ∷ []) (get_or_from_slice_get script index entry entry there)

-- ---- one command more

-- transfers of commands behind others
moves_behind : (items : List Item) (front rest : List Entry) (before after : List PlacedFile) → allocates front ≡ length before
    → command_moves items (front ++ rest) (before ++ after) ≡ command_moves items front before ++ command_moves items rest after
moves_behind items [] rest [] after count = refl
moves_behind items [] rest (p ∷ before) after count = absurd (omega arith)
moves_behind items (Allocate name align zone ∷ front) rest [] after count = absurd (omega arith)
moves_behind items (Allocate name align zone ∷ front) rest (p ∷ before) after count =
    ap (λ (more : List Finished). file_read items p ++ more) (moves_behind items front rest before after (omega arith))
    ∙ sym (append_assoc (file_read items p) (command_moves items front before) (command_moves items rest after))
moves_behind items (WritePointer dest src dst_offset src_offset size ∷ front) rest before after count =
    ap (λ (more : List Finished). pointer_moves items dest dst_offset size ++ more) (moves_behind items front rest before after count)
    ∙ sym (append_assoc (pointer_moves items dest dst_offset size) (command_moves items front before) (command_moves items rest after))
moves_behind items (AddPointer dest src offset size ∷ front) rest before after count = moves_behind items front rest before after count
moves_behind items (AddChecksum name offset start count ∷ front) rest before after many = moves_behind items front rest before after many
moves_behind items (Misnamed command ∷ front) rest before after count = moves_behind items front rest before after count
moves_behind items (Skipped command ∷ front) rest before after count = moves_behind items front rest before after count

-- Behind the transfers of the commands before it come those of the command of an index.
moves_of_next : (items : List Item) (index : ℕ) (entry : Entry) (w : LoadState) (before after : List PlacedFile)
    → slice_get w.script index ≡ Some entry → allocates (take index w.script) ≡ length before
    → moves_before items (suc index) w (before ++ after) ≡ moves_before items index w before ++ command_moves items (entry ∷ []) after
moves_of_next items index entry w before after there count =
    let front = take index w.script in
    let reads = directory_reads items ++ script_reads items in
    ap (λ (commands : List Entry). reads ++ command_moves items commands (before ++ after)) (one_more_taken w.script index entry there)
    ∙ ap (λ (more : List Finished). reads ++ more) (moves_behind items front (entry ∷ []) before after count)
    ∙ sym (append_assoc reads (command_moves items front before) (command_moves items (entry ∷ []) after))

-- those of a command that places none
pub moves_of_command : (May : Answers) (items : List Item) (index : ℕ) (entry : Entry) (w : LoadState) (p : Progress)
    → slice_get w.script index ≡ Some entry → HasCarriedOut May items index p w → length p.placed ≡ length w.placed
    → moves_before items (suc index) w w.placed ≡ moves_before items index w w.placed ++ command_moves items (entry ∷ []) []
moves_of_command May items index entry w p there run count =
    ap (moves_before items (suc index) w) (sym (append-nil w.placed))
    ∙ moves_of_next items index entry w w.placed [] there (carried_placed May items index p w run ∙ count)

-- and of an Allocate, whose file is the last of those that are placed
pub moves_of_file : (May : Answers) (items : List Item) (index : ℕ) (name : List ℕ) (align zone : ℕ) (w : LoadState) (p : Progress)
    (before : List PlacedFile) (last : PlacedFile) → slice_get w.script index ≡ Some (Allocate name align zone)
    → HasCarriedOut May items (suc index) p w → length p.placed ≡ length before + 1
    → moves_before items (suc index) w (before ++ last ∷ [])
    ≡ moves_before items index w before ++ command_moves items (Allocate name align zone ∷ []) (last ∷ [])
moves_of_file May items index name align zone w p before last there run count =
    let entry = Allocate name align zone in
    moves_of_next items index entry w before (last ∷ []) there
    (omega (
      arith,
      carried_placed May items (suc index) p w run,
      count,
      ap allocates (one_more_taken w.script index entry there),
      allocates_parts (take index w.script) (entry ∷ []),
    ))

-- ---- which they are

-- the read of a file, by the items of now
pub file_read_is : (items now : List Item) (p : PlacedFile) (file : Item) → HaveOneShape items now → named now p.name ≡ Some file
    → file_read items p ≡ read_of file.select 0 p.size p.place ∷ []
file_read_is items now p file shape there =
    let its = same_named now items p.name file (sym shape) there in
    ap (λ (o : Option Item). option_map_or (λ (item : Item). read_of item.select 0 p.size p.place ∷ []) o []) its.1
    ∙ ap (λ (s : Shape). read_of s.listed.select 0 p.size p.place ∷ []) its.2

-- the skip and the write of a WritePointer
pub pointer_moves_are : (items now : List Item) (dest : List ℕ) (file : Item) (offset size : ℕ) → HaveOneShape items now → named now dest ≡ Some file
    → pointer_moves items dest offset size ≡ skip_of file.select offset ∷ write_of file.select offset size buffer_at ∷ []
pointer_moves_are items now dest file offset size shape there =
    let its = same_named now items dest file (sym shape) there in
    ap (λ (o : Option Item).
    option_map_or (λ (item : Item). skip_of item.select offset ∷ write_of item.select offset size buffer_at ∷ []) o []) its.1
    ∙ ap (λ (s : Shape). skip_of s.listed.select offset ∷ write_of s.listed.select offset size buffer_at ∷ []) its.2

-- ---- how many they are

-- a placed file has at most one read, and a WritePointer two transfers
few_reads : (o : Option Item) (size place : ℕ)
    → length (option_map_or (λ (item : Item). read_of item.select 0 size place ∷ []) o []) ≤ 1
few_reads None size place = omega arith
few_reads (Some item) size place = omega arith

few_moves : (o : Option Item) (offset size : ℕ)
    → length (option_map_or (λ (item : Item). skip_of item.select offset ∷ write_of item.select offset size buffer_at ∷ []) o []) ≤ 2
few_moves None offset size = omega arith
few_moves (Some item) offset size = omega arith

-- no command has more than two
few_command_moves : (items : List Item) (commands : List Entry) (placed : List PlacedFile)
    → length (command_moves items commands placed) ≤ 2 * length commands
few_command_moves items [] placed = omega arith
few_command_moves items (Allocate name align zone ∷ commands) [] = omega arith
few_command_moves items (Allocate name align zone ∷ commands) (p ∷ placed) =
    omega (
      arith,
      length-append (file_read items p) (command_moves items commands placed),
      few_reads (named items p.name) p.size p.place,
      few_command_moves items commands placed,
    )
few_command_moves items (WritePointer dest src dst_offset src_offset size ∷ commands) placed =
    omega (
      arith,
      length-append (pointer_moves items dest dst_offset size) (command_moves items commands placed),
      few_moves (named items dest) dst_offset size,
      few_command_moves items commands placed,
    )
few_command_moves items (AddPointer dest src offset size ∷ commands) placed = omega (arith, few_command_moves items commands placed)
few_command_moves items (AddChecksum name offset start count ∷ commands) placed = omega (arith, few_command_moves items commands placed)
few_command_moves items (Misnamed command ∷ commands) placed = omega (arith, few_command_moves items commands placed)
few_command_moves items (Skipped command ∷ commands) placed = omega (arith, few_command_moves items commands placed)

-- a script has a command for each 128 bytes
script_from_long : (found : Option Item) (script : List Entry) → script_from found ≡ Ok script
    → length script ≡ option_map_or (λ (item : Item). length item.bytes) found 0 / 128
script_from_long None script is = absurd (subst (λ (r : Result (List Entry) LoadFault). IfOk r (λ any. ⊥)) is tt)
script_from_long (Some item) script is =
    sym (ap length (script_is item.bytes script is).are) ∙ length-entries (length item.bytes / 128) item.bytes

pub script_long : (items : List Item) (script : List Entry) → script_in items ≡ Ok script → length script ≡ script_size items / 128
script_long items script is = script_from_long (named items loader_name) script is

-- At a command there is room for two transfers more.
pub room_at : (items : List Item) (script : List Entry) (index : ℕ) (placed : List PlacedFile) → script_in items ≡ Ok script → index < length script
    → length (moves items (take index script) placed) + 2 ≤ most_transfers items
room_at items script index placed is within =
    let commands = take index script in
    omega (
      arith,
      script_long items script is,
      script_short items script is,
      length-take index script,
      few_command_moves items commands placed,
      length-append (directory_reads items ++ script_reads items) (command_moves items commands placed),
      length-append (directory_reads items) (script_reads items),
    )
