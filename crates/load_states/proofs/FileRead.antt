-- A placed file, once its read is over.
use Rattle.std.proofs.Common.{◌≡◌, ℕ, suc, List, [], ◌∷◌, ◌++◌, ◌+◌, length, Some}
use Rattle.std.proofs.Common.{arith, sym, ap, subst, ◌∙◌, length-append}
use Rattle.std.proofs.lemmas.List.{append-nil, map_push, take_all, length-map}
use Rattle.std.proofs.lemmas.Option.{slice_get_within}
use Rattle.vt_bytes.specs.Parts.{part}
use Rattle.vt_bytes.specs.Memory.{Memory, bytes_at}
use Rattle.cfg_directory.specs.declared.item.Item.{Item}
use Rattle.cfg_directory.specs.Items.{IsItems, named}
use Rattle.cfg_directory.specs.Files.{files_of}
use Rattle.loader_script.specs.declared.entry.Entry.TheVariants.{Allocate}
use Rattle.loader_script.specs.Run.{Placed}
use Rattle.cfg_dma.specs.declared.transfer.Finished.{Finished}
use Rattle.cfg_dma.specs.Reads.{IsOver, read_of, moved_by}
use Rattle.command_acts.specs.declared.placed.PlacedFile.{PlacedFile}
use Rattle.command_acts.specs.FilesInMemory.{files_in, placed_in}
use Rattle.command_acts.specs.Runs.{Answers, at_files, placed_at}
use Rattle.load_states.specs.declared.stage.Stage.TheVariants.{AtCommand}
use Rattle.load_states.specs.Guarded.{descriptor_at}
use Rattle.load_states.specs.LoadState.{LoadState, Opening, memory_of, items_now}
use Rattle.load_states.specs.Moves.{file_read, command_moves}
use Rattle.load_states.specs.Kept.{KeepsNow, HasCarriedOut, IsComing, moves_before}
use Rattle.load_states.proofs.Looks.{kept_with}
use Rattle.command_acts.proofs.ItemsWritten.{bytes_of_named}
use Rattle.load_states.proofs.CommandMoves.{moves_of_file, file_read_is}
use Rattle.load_states.proofs.NamedItems.{contents_named}
use Rattle.load_states.proofs.Frames.{KeepsOn}

-- memory holds a file as it is placed, where it holds what its read moved
file_held : (items : List Item) (m : Memory) (last : PlacedFile) (file : Item) → IsItems items → named items last.name ≡ Some file
    → last.size ≡ length file.bytes → bytes_at m last.place last.size ≡ moved_by items (read_of file.select 0 last.size last.place)
    → placed_in m last ≡ placed_at (files_of items) last.name last.place
file_held items m last file lawful is size held =
    ap (λ (bytes : List ℕ). record { name = last.name; place = last.place; bytes = bytes })
    (held ∙ ap (λ (b : List ℕ). part b 0 last.size) (contents_named items last.name file lawful is)
    ∙ take_all last.size file.bytes (omega arith) ∙ sym (bytes_of_named items last.name file is))

-- and behind those before it
files_held : (items : List Item) (m : Memory) (placed before : List PlacedFile) (last : PlacedFile) (file : Item) → IsItems items
    → placed ≡ before ++ last ∷ [] → named items last.name ≡ Some file → last.size ≡ length file.bytes
    → bytes_at m last.place last.size ≡ moved_by items (read_of file.select 0 last.size last.place)
    → files_in m placed ≡ files_in m before ++ placed_at (files_of items) last.name last.place ∷ []
files_held items m placed before last file lawful are is size held =
    ap (files_in m) are ∙ map_push (placed_in m) before last
    ∙ ap (λ (p : Placed). files_in m before ++ p ∷ []) (file_held items m last file lawful is size held)

-- The firmware goes on behind the file.
pub file_is_there : (May : Answers) (its : Opening) (w : LoadState) (index : ℕ) → KeepsNow May its w → (coming : IsComing May its.items index w)
    → IsOver (items_now w) (moves_before its.items index w coming.before) descriptor_at
    (read_of coming.file.select 0 coming.last.size coming.last.place) w.attached → KeepsOn May its w (record w { stage = AtCommand (suc index) })
file_is_there May its w index kept coming over =
    let script = coming.script in
    let last = coming.last in
    let entry = Allocate last.name coming.align coming.zone in
    let now = files_held (items_now w) (memory_of w) w.placed coming.before last coming.file kept.device.items coming.placed_are coming.there coming.size
    over.held in
    let one : command_moves its.items (entry ∷ []) (last ∷ []) ≡ read_of coming.file.select 0 last.size last.place ∷ [] =
    append-nil (file_read its.items last) ∙ file_read_is its.items (items_now w) last coming.file kept.shape coming.there in
    let so_many : length (files_in (memory_of w) coming.before ++ placed_at (files_of (items_now w)) last.name last.place ∷ []) ≡ length coming.before + 1 =
    omega (
      arith,
      length-append (files_in (memory_of w) coming.before) (placed_at (files_of (items_now w)) last.name last.place ∷ []),
      length-map coming.before (placed_in (memory_of w)),
    ) in
    let reads = moves_of_file May its.items index last.name coming.align coming.zone w _ coming.before last coming.command coming.run so_many
    ∙ ap (λ (r : List Finished). moves_before its.items index w coming.before ++ r) one in
    kept_with May its w w.listed w.script (AtCommand (suc index)) kept (
      record { listed = script.listed; script = script.script },
      (let within = slice_get_within w.script index entry coming.command in omega arith),
      record { idle = over.idle; finished = over.finished ∙ sym (ap (moves_before its.items (suc index) w) coming.placed_are ∙ reads) },
      subst (λ (files : List Placed). HasCarriedOut May its.items (suc index) (at_files (files_of (items_now w)) files []) w) (sym now) coming.run,
    )
