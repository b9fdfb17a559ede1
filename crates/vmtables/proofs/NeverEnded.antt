-- No lawful places would have ended the load of a machine's image before a reset.
use Rattle.std.proofs.Common.{◌≡◌, ℕ, List, [], ◌∷◌, map, Ok, Err, IfOk, refl, subst}
use Rattle.std.specs.List.{AllByRecursion}
use Rattle.cfg_directory.specs.declared.item.Item.{Item}
use Rattle.cfg_directory.specs.Files.{files_of}
use Rattle.machine_desc.specs.declared.machine.Machine.{Machine}
use Rattle.loader_script.specs.declared.entry.Entry.{Entry}
use Rattle.loader_script.specs.Left.{range_of}
use Rattle.loader_script.specs.Run.{End, opening}
use Rattle.vm_image.specs.Built.{IsBuilt}
use Rattle.vm_image.specs.Image.{image_items, image_script}
use Rattle.vm_image.specs.Promised.{top_of}
use Rattle.command_acts.specs.Allocators.{AreLawful}
use Rattle.command_acts.specs.declared.fault.LoadFault.{LoadFault}
use Rattle.command_acts.specs.Runs.{Answers, EndsWith, result_of}
use Rattle.command_acts.specs.Script.{script_in}
use Rattle.command_acts.proofs.PlainRuns.{is_run}
use Rattle.load_states.specs.declared.event.Event.{Event}
use Rattle.load_states.specs.declared.stage.Stage.{Stage}
use Rattle.load_states.specs.declared.stage.Stage.TheVariants.{Refused}
use Rattle.load_states.specs.Kept.{HasEnded, StageKeeps}
use Rattle.load_states.specs.LoadState.{LoadState, Opening, begun_with, files_now, progress_of}
use Rattle.load_states.specs.Loads.{IsBegun}
use Rattle.load_states.specs.Pace.{IsUnrefused}
use Rattle.load_states.specs.Pieces.{RunsInPieces}
use Rattle.load_states.specs.Runs.{GivesLawful, NeverEnds}
use Rattle.load_states.proofs.OnePace.{never_ends, run_keeps}
use Rattle.load_states.proofs.Opening.{begun_keeps}
use Rattle.vmtables.proofs.ImageRuns.{GivesFree}
use Rattle.vmtables.proofs.ImageRunEnds.{ended_with, extended_of, lawful_so, room, room_of}

-- the places that a lawful allocator gives are free
frees : (m : Machine) → GivesFree (GivesLawful (top_of m)) (top_of m)
frees m handed request place free = free

module _ (m : Machine) (items : List Item) (script : List Entry) (built : IsBuilt m items script)
    (read : script_in (image_items m) ≡ Ok (image_script m)) where
  -- the load of an image to which a place is given each time isn't refused
  never_refused : (why : LoadFault) (w : LoadState) → HasEnded (GivesLawful (top_of m)) (image_items m) (Err why) w → ⊥
  never_refused why w ended =
      let May : Answers = GivesLawful (top_of m) in
      let run : (end : End) × EndsWith May 0 (image_script m) (opening (files_of (image_items m)) []) end (progress_of w) × (ended_with why ≡ result_of end) =
      subst (λ those. IfOk those (λ script.
      (end : End) × EndsWith May 0 script (opening (files_of (image_items m)) []) end (progress_of w) × (ended_with why ≡ result_of end))) read ended.ran in
      let run_is = is_run May (files_of (image_items m)) (image_script m) (map range_of (files_now w)) run.0 (progress_of w) run.1 refl in
      elim (room_of May (top_of m) (files_of (image_items m)) (image_script m) (files_now w) run.0 why run.2
      (λ room. (lawful_so m items script built May (map range_of (files_now w)) run.0 (progress_of w) (frees m) run_is room).done)
      (extended_of m items script built May run.0 (progress_of w) (frees m) run.1).no_room) as (λ _. ⊥) [ room index is refusal ↦ refusal.refusal ]

  unrefused : (w : LoadState) (s : Stage) → StageKeeps (GivesLawful (top_of m)) (image_items m) w s → IsUnrefused s
  unrefused w (Refused why) keeps = never_refused why w keeps
  unrefused w _ keeps = tt

  -- so none of the pieces of its events would have ended it
  pub pieces_unended : (May : Answers) (fill : ℕ) (begun model : LoadState) (pieces : List (List Event)) (since : List Event)
      → AreLawful May (top_of m) → IsBegun (begun_with (image_items m) (top_of m) fill) begun → RunsInPieces May begun begun pieces since model
      → AllByRecursion (λ piece. NeverEnds (GivesLawful (top_of m)) piece begun) pieces
  pieces_unended May fill begun model [] since lawful is ran = tt
  pieces_unended May fill begun model (piece ∷ pieces) since lawful is ran =
      let Gives : Answers = GivesLawful (top_of m) in
      let its : Opening = begun_with (image_items m) (top_of m) fill in (
        never_ends May Gives its piece begun lawful (frees m) is
            (λ last runs. unrefused last last.stage (run_keeps Gives its piece begun last (frees m) (begun_keeps Gives its begun is).now runs).stage) ran.0,
        pieces_unended May fill begun model pieces since lawful is ran.1,
      )
