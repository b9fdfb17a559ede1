-- A look of the firmware at an awaited read: the read is over, or the firmware waits.
use Rattle.std.proofs.Common.{◌≡◌, ℕ, ◌^◌, ◌<◌, ◌==◌, Bool, true, false, if◌then◌else◌, List, [], None, Result, Err}
use Rattle.std.proofs.Common.{inl, inr, arith, refl, sym, subst}
use Rattle.std.specs.Prelude.{IfOk, IfErr}
use Rattle.std.proofs.lemmas.Bool.{cases_Bool, cond-true, cond-false, eqb-true}
use Rattle.vt_bytes.specs.Numbers.{be}
use Rattle.vt_bytes.specs.Memory.{bytes_at}
use Rattle.cfg_directory.specs.declared.item.Item.{Item}
use Rattle.cfg_directory.specs.declared.listed.Listed.{Listed}
use Rattle.loader_script.specs.declared.entry.Entry.{Entry}
use Rattle.loader_script.specs.Run.{End, opening}
use Rattle.cfg_directory.specs.Files.{files_of}
use Rattle.cfg_dma.specs.declared.transfer.Finished.{Finished}
use Rattle.cfg_dma.specs.Transfers.{Attached}
use Rattle.cfg_dma.specs.Reads.{IsAwaited, IsOver}
use Rattle.cfg_dma.proofs.Started.{word_written}
use Rattle.command_acts.specs.declared.fault.LoadFault.{LoadFault}
use Rattle.command_acts.specs.Runs.{Answers, EndsWith, result_of}
use Rattle.command_acts.specs.Script.{script_in}
use Rattle.load_states.specs.declared.stage.Stage.{Stage}
use Rattle.load_states.specs.LoadState.{LoadState, Opening, items_now, progress_of}
use Rattle.load_states.specs.Kept.{KeepsNow, StageKeeps, HasEnded}
use Rattle.load_states.proofs.Frames.{KeepsOn, kept_from}

-- what holds on either side of a test holds of the choice
pub by_test : {A : Type 0} (P : A → Type 0) (b : Bool) (x y : A) → (b ≡ true → P x) → (b ≡ false → P y) → P (if b then x else y)
by_test P b x y first second = elim (cases_Bool b) as (λ _. P (if b then x else y)) [
  | inl holds ↦ subst P (sym (cond-true b x y holds)) (first holds)
  | inr fails ↦ subst P (sym (cond-false b x y fails)) (second fails)
]

-- an awaited read whose control word is zero is over
pub over_now : (items : List Item) (before : List Finished) (descriptor control : ℕ) (transfer : Finished) (a : Attached) → 0 < control
    → control < 2 ^ 32 → IsAwaited items before descriptor control transfer a → (be (bytes_at a.memory descriptor 4) == 0) ≡ true
    → IsOver items before descriptor transfer a
over_now items before descriptor control transfer a some fits awaited zero = elim awaited as (λ _. IsOver items before descriptor transfer a) [
  | inl moving ↦
      let word = word_written a.memory descriptor control transfer.length transfer.address moving.written fits in
      absurd (omega (arith, word, eqb-true (be (bytes_at a.memory descriptor 4)) 0 zero))
  | inr over ↦ over
]

-- A step of the firmware that takes something from the buffer, or goes on, keeps what is kept where its new stage does.
pub kept_with : (May : Answers) (its : Opening) (w : LoadState) (listed : List Listed) (script : List Entry) (stage : Stage) → KeepsNow May its w
    → StageKeeps May its.items (record w { listed = listed; script = script; stage = stage }) stage → KeepsOn May its w
    (record w { listed = listed; script = script; stage = stage })
kept_with May its w listed script stage kept held =
    let next : LoadState = record w { listed = listed; script = script; stage = stage } in
    kept_from May its w next kept
    (record { room = refl; opening = refl; device = kept.device; memory = kept.memory; top = refl; fill = refl }) refl refl
    (λ address ram other beside. refl) kept.stands held

-- A step of a firmware that waits keeps it.
pub kept_waiting : (May : Answers) (its : Opening) (w : LoadState) → KeepsNow May its w → KeepsOn May its w w
kept_waiting May its w kept = kept_with May its w w.listed w.script w.stage kept kept.stage

-- a load without a script has ended, with nothing placed
pub ended_unread : (May : Answers) (items : List Item) (why : LoadFault) (w : LoadState) → w.attached.device.flight ≡ None → script_in items ≡ Err why
    → w.placed ≡ [] → items_now w ≡ items → HasEnded May items (Err why) w
ended_unread May items why w idle is none begun =
    let answer : Result (Unit {0}) LoadFault = Err why in
    record {
      idle = idle;
      unread = subst (λ (r : Result (List Entry) LoadFault). IfErr r (λ fault. (answer ≡ Err fault) × (w.placed ≡ []) × (items_now w ≡ items))) (sym is)
          (refl, none, begun);
      ran = subst
          (λ (r : Result (List Entry) LoadFault). IfOk r (λ script.
          (end : End) × EndsWith May 0 script (opening (files_of items) []) end (progress_of w) × (answer ≡ result_of end))) (sym is) tt;
    }
