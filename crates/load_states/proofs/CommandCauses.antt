-- The command that the firmware comes to, and a load that ends at it.
use Rattle.std.proofs.Common.{◌≡◌, ℕ, ◌+◌, List, [], ◌∷◌, drop, slice_get, Some, None, Result, Ok, Err}
use Rattle.std.proofs.Common.{arith, refl, ap, sym, subst, ◌∙◌}
use Rattle.std.proofs.lemmas.List.{drop_more}
use Rattle.std.proofs.lemmas.Option.{slice_get_within, get_or_from_slice_get}
use Rattle.std.specs.Prelude.{IfOk, IfErr}
use Rattle.vt_outside.specs.Placement.{Range}
use Rattle.cfg_directory.specs.declared.item.Item.{Item}
use Rattle.loader_script.specs.declared.entry.Entry.{Entry}
use Rattle.loader_script.specs.declared.entry.Entry.TheVariants.{Allocate}
use Rattle.loader_script.specs.declared.refusing.Cause.{Cause}
use Rattle.loader_script.specs.Run.{End, Command, NoRoom, cause_of, opening}
use Rattle.cfg_directory.specs.Files.{files_of}
use Rattle.command_acts.specs.declared.fault.LoadFault.{LoadFault}
use Rattle.command_acts.specs.declared.fault.LoadFault.TheVariants as fault
use Rattle.command_acts.specs.FilesInMemory.{placed_ranges}
use Rattle.command_acts.specs.Runs.{Answers, EndsWith, refused, without_room, request_of, result_of}
use Rattle.command_acts.specs.Script.{script_in}
use Rattle.command_acts.proofs.Allocations.{ranges_in}
use Rattle.load_states.specs.declared.stage.Stage.TheVariants.{Refused}
use Rattle.load_states.specs.LoadState.{LoadState, Opening, memory_of, items_now, progress_of}
use Rattle.load_states.specs.Kept.{KeepsNow, IsIdle, HasScript, HasCarriedOut, HasEnded, moves_before}
use Rattle.load_states.proofs.Fronts.{ends_from}
use Rattle.load_states.proofs.Looks.{kept_with}
use Rattle.load_states.proofs.Frames.{KeepsOn}

-- a load that ended with a fault
abbrev ended : LoadFault → Result (Unit {0}) LoadFault
ended found = Err found

-- The firmware has come to a command: it knows the script, no transfer is in flight, and the commands before it are carried out.
pub record IsBefore (May : Answers) (items : List Item) (w : LoadState) (index : ℕ) (entry : Entry) : Type 0 where
  pub script : HasScript items w
  pub there : slice_get w.script index ≡ Some entry
  pub idle : IsIdle w (moves_before items index w w.placed)
  pub run : HasCarriedOut May items index (progress_of w) w

-- a load whose run has ended
pub ended_run : (May : Answers) (items : List Item) (script : List Entry) (end : End) (answer : Result (Unit {0}) LoadFault) (w : LoadState)
    → w.attached.device.flight ≡ None → script_in items ≡ Ok script → EndsWith May 0 script (opening (files_of items) []) end (progress_of w)
    → answer ≡ result_of end → HasEnded May items answer w
ended_run May items script end answer w idle is ends answered = record {
  idle = idle;
  unread = subst (λ (r : Result (List Entry) LoadFault). IfErr r (λ why. (answer ≡ Err why) × (w.placed ≡ []) × (items_now w ≡ items))) (sym is) tt;
  ran = subst
      (λ (r : Result (List Entry) LoadFault). IfOk r (λ script.
      (end : End) × EndsWith May 0 script (opening (files_of items) []) end (progress_of w) × (answer ≡ result_of end))) (sym is)
      (end, ends, answered);
}

-- the run from its first command on ends as it does at a command
stops_at : (May : Answers) (items : List Item) (w : LoadState) (index : ℕ) (entry : Entry) (end : End) → IsBefore May items w index entry
    → EndsWith May index (entry ∷ drop (index + 1) w.script) (progress_of w) end (progress_of w)
    → EndsWith May 0 w.script (opening (files_of items) []) end (progress_of w)
stops_at May items w index entry end before ends =
    let within = slice_get_within w.script index entry before.there in
    let left : drop index w.script ≡ entry ∷ drop (index + 1) w.script =
    drop_more w.script index entry within
    ∙ ap (λ (e : Entry). e ∷ drop (index + 1) w.script) (get_or_from_slice_get w.script index entry entry before.there) in
    ends_from May (files_of items) w.script index (placed_ranges w.placed) (progress_of w) (progress_of w) end (omega arith) before.run
    (subst (λ (es : List Entry). EndsWith May index es (progress_of w) end (progress_of w)) (sym left) ends)

-- The firmware stops where the run ends.
stops_keeps : (May : Answers) (its : Opening) (w : LoadState) (index : ℕ) (entry : Entry) (end : End) (why : LoadFault) → KeepsNow May its w
    → IsBefore May its.items w index entry → EndsWith May 0 w.script (opening (files_of its.items) []) end (progress_of w) → ended why ≡ result_of end
    → KeepsOn May its w (record w { stage = Refused why })
stops_keeps May its w index entry end why kept before ends answered =
    kept_with May its w w.listed w.script (Refused why) kept
    (ended_run May its.items w.script end (Err why) (record w { stage = Refused why }) before.idle.idle before.script.script ends answered)

-- a command that is refused
pub refused_keeps : (May : Answers) (its : Opening) (w : LoadState) (index : ℕ) (entry : Entry) (cause : Cause) → KeepsNow May its w
    → IsBefore May its.items w index entry → cause_of entry (progress_of w) ≡ Some cause → KeepsOn May its w
    (record w { stage = Refused (fault.Command index cause) })
refused_keeps May its w index entry cause kept before is =
    stops_keeps May its w index entry (Command index cause) (fault.Command index cause) kept before
    (stops_at May its.items w index entry (Command index cause) before (refused is)) refl

-- an Allocate that is given no place
pub no_room_keeps : (May : Answers) (its : Opening) (w : LoadState) (index : ℕ) (name : List ℕ) (align zone : ℕ) → KeepsNow May its w
    → IsBefore May its.items w index (Allocate name align zone) → cause_of (Allocate name align zone) (progress_of w) ≡ None → May
    (placed_ranges w.placed) (request_of (files_of (items_now w)) name align zone) None → KeepsOn May its w
    (record w { stage = Refused (fault.NoRoom index) })
no_room_keeps May its w index name align zone kept before none may =
    let given = subst (λ (handed : List Range). May handed (request_of (files_of (items_now w)) name align zone) None)
    (sym (ranges_in (memory_of w) w.placed)) may in
    stops_keeps May its w index (Allocate name align zone) (NoRoom index) (fault.NoRoom index) kept before
    (stops_at May its.items w index (Allocate name align zone) (NoRoom index) before (without_room none given)) refl
