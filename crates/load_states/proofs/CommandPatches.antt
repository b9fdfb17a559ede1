-- A command that changes memory in placed files only, or nothing.
use Rattle.std.proofs.Common.{◌≡◌, ℕ, suc, List, [], ◌∷◌, ◌++◌, map, slice_get, Some, None}
use Rattle.std.proofs.Common.{arith, refl, sym, ap, subst, ◌∙◌}
use Rattle.std.proofs.lemmas.List.{length-map, append-nil}
use Rattle.std.proofs.lemmas.Option.{slice_get_within, get_or_from_slice_get}
use Rattle.vt_bytes.specs.Memory.{Memory, IsMemory, IsRam}
use Rattle.cfg_directory.specs.declared.item.Item.{Item}
use Rattle.loader_script.specs.declared.entry.Entry.{Entry}
use Rattle.loader_script.specs.declared.entry.Entry.TheVariants.{AddPointer, AddChecksum, Skipped}
use Rattle.loader_script.specs.Left.{range_of}
use Rattle.loader_script.specs.Run.{Progress, cause_of}
use Rattle.cfg_dma.specs.declared.transfer.Finished.{Finished}
use Rattle.cfg_directory.specs.Files.{files_of}
use Rattle.command_acts.specs.FilesInMemory.{placed_in, placed_ranges, progress_in, IsLoading, Stays, pointed, summed}
use Rattle.command_acts.specs.Runs.{Answers}
use Rattle.command_acts.specs.Steps.{LeadsOn}
use Rattle.command_acts.proofs.Allocations.{ranges_in}
use Rattle.command_acts.proofs.Goes.{skip_goes, pointer_goes, sum_goes}
use Rattle.load_states.specs.declared.stage.Stage.TheVariants.{AtCommand}
use Rattle.load_states.specs.LoadState.{LoadState, Opening, memory_of, with_memory, items_now, progress_of}
use Rattle.load_states.specs.Kept.{KeepsNow, HasCarriedOut, moves_before}
use Rattle.load_states.specs.Moves.{command_moves}
use Rattle.load_states.proofs.Frames.{KeepsOn, kept_from}
use Rattle.load_states.proofs.Fronts.{one_more}
use Rattle.load_states.proofs.CommandCauses.{IsBefore}
use Rattle.load_states.proofs.CommandMoves.{moves_of_command}

-- a command that leads on is one more that is carried out
pub carried_more : (May : Answers) (items : List Item) (index : ℕ) (entry : Entry) (w : LoadState) {now : Progress} (after : Progress)
    → slice_get w.script index ≡ Some entry → HasCarriedOut May items index now w → LeadsOn May entry now after
    → placed_ranges w.placed ≡ map range_of after.placed → HasCarriedOut May items (suc index) after w
carried_more May items index entry w {now} after there run leads ranges =
    one_more May (files_of items) w.script index entry (placed_ranges w.placed) (placed_ranges w.placed) now after
    (slice_get_within w.script index entry there) (sym (get_or_from_slice_get w.script index entry entry there)) run leads ranges

-- The firmware goes on behind a command with a memory in which other bytes stay.
patched_keeps : (May : Answers) (its : Opening) (w : LoadState) (index : ℕ) (entry : Entry) (m : Memory) → KeepsNow May its w
    → IsBefore May its.items w index entry → command_moves its.items (entry ∷ []) [] ≡ [] → LeadsOn May entry (progress_of w)
    (progress_in m (files_of (items_now w)) w.placed []) → Stays (memory_of w) m w.placed w.placed → IsMemory m → KeepsOn May its w
    (record (with_memory w m) { stage = AtCommand (suc index) })
patched_keeps May its w index entry m kept before no_moves leads stays lawful =
    let next : LoadState = record (with_memory w m) { stage = AtCommand (suc index) } in
    kept_from May its w next kept
    (record { room = refl; opening = refl; device = kept.device; memory = lawful; top = stays.top; fill = stays.fill }) refl refl
    (λ address ram other beside. (stays.others address (subst (λ (t : ℕ). IsRam t address) (sym (stays.top ∙ kept.top)) ram) beside).1)
    kept.stands (
      record { listed = before.script.listed; script = before.script.script },
      (let within = slice_get_within w.script index entry before.there in omega arith),
      record {
        idle = before.idle.idle;
        finished = before.idle.finished
            ∙ sym (moves_of_command May its.items index entry w (progress_of w) before.there before.run (length-map w.placed (placed_in (memory_of w)))
            ∙ ap (λ (more : List Finished). moves_before its.items index w w.placed ++ more) no_moves
            ∙ append-nil (moves_before its.items index w w.placed));
      },
      carried_more May its.items index entry w (progress_in m (files_of (items_now w)) w.placed []) before.there before.run leads
          (sym (ranges_in m w.placed)),
    )

-- a command that is skipped
pub skip_keeps : (May : Answers) (its : Opening) (w : LoadState) (index command : ℕ) → KeepsNow May its w → IsBefore May its.items w index
    (Skipped command) → KeepsOn May its w (record w { stage = AtCommand (suc index) })
skip_keeps May its w index command kept before =
    patched_keeps May its w index (Skipped command) (memory_of w) kept before refl
    (skip_goes May (memory_of w) (files_of (items_now w)) w.placed command)
    (record { top = refl; fill = refl; others = λ address ram beside. (beside, refl) }) kept.memory

-- what is loaded lies below the memory's own its.top
loading_here : (May : Answers) (its : Opening) (w : LoadState) → KeepsNow May its w → IsLoading (memory_of w).top (files_of (items_now w)) w.placed
loading_here May its w kept = subst (λ (t : ℕ). IsLoading t (files_of (items_now w)) w.placed) (sym kept.top) kept.loading

-- an AddPointer
pub pointer_keeps : (May : Answers) (its : Opening) (w : LoadState) (index : ℕ) (dest src : List ℕ) (offset size : ℕ) → KeepsNow May its w
    → IsBefore May its.items w index (AddPointer dest src offset size) → cause_of (AddPointer dest src offset size) (progress_of w) ≡ None
    → KeepsOn May its w (record (with_memory w (pointed (memory_of w) w.placed dest src offset size)) { stage = AtCommand (suc index) })
pointer_keeps May its w index dest src offset size kept before none =
    let goes = pointer_goes May (memory_of w) (files_of (items_now w)) w.placed dest src offset size kept.memory
    (loading_here May its w kept) none in
    patched_keeps May its w index (AddPointer dest src offset size) (pointed (memory_of w) w.placed dest src offset size) kept
    before refl goes.0 goes.1 goes.2

-- an AddChecksum
pub sum_keeps : (May : Answers) (its : Opening) (w : LoadState) (index : ℕ) (name : List ℕ) (offset start count : ℕ) → KeepsNow May its w
    → IsBefore May its.items w index (AddChecksum name offset start count) → cause_of (AddChecksum name offset start count) (progress_of w) ≡ None
    → KeepsOn May its w (record (with_memory w (summed (memory_of w) w.placed name offset start count)) { stage = AtCommand (suc index) })
sum_keeps May its w index name offset start count kept before none =
    let goes = sum_goes May (memory_of w) (files_of (items_now w)) w.placed name offset start count kept.memory
    (loading_here May its w kept) none in
    patched_keeps May its w index (AddChecksum name offset start count) (summed (memory_of w) w.placed name offset start count) kept
    before refl goes.0 goes.1 goes.2
