-- What a load has left that has ended.
use Rattle.std.proofs.Common.{◌≡◌, ℕ, suc, zero, false, List, ◌++◌, Result, Ok, Err, refl, sym, ap, subst, ◌∙◌}
use Rattle.std.specs.Prelude.{IfOk, IfErr}
use Rattle.vt_outside.specs.Placement.{Range}
use Rattle.cfg_directory.specs.declared.item.Item.{Item}
use Rattle.cfg_directory.specs.Files.{files_of}
use Rattle.command_acts.specs.declared.fault.LoadFault.{LoadFault}
use Rattle.command_acts.specs.FilesInMemory.{placed_ranges}
use Rattle.command_acts.specs.Runs.{Answers}
use Rattle.command_acts.specs.Script.{script_in}
use Rattle.command_acts.proofs.Allocations.{ranges_in}
use Rattle.command_acts.proofs.PlainRuns.{is_run}
use Rattle.load_states.specs.declared.event.Event.{Event}
use Rattle.load_states.specs.LoadState.{LoadState, Opening, memory_of}
use Rattle.load_states.specs.Runs.{closing_events, has_reset, left_by_others}
use Rattle.load_states.proofs.LeftByOthers.{left_more, told_behind}
use Rattle.load_states.specs.Kept.{IsKept, StageKeeps, HasEnded, IsCleared}
use Rattle.load_states.specs.Moves.{moves}
use Rattle.load_states.specs.Loads.{IsLoadedOver, stage_after}

-- closing events are no writes of other processors
left_closing : (top held : ℕ) (count address : ℕ) → left_by_others top held (closing_events count) address ≡ held
left_closing top held zero address = refl
left_closing top held (suc zero) address = refl
left_closing top held (suc (suc count)) address = left_closing top held count address

-- nor resets
no_reset : (count : ℕ) → has_reset (closing_events count) ≡ false
no_reset zero = refl
no_reset (suc zero) = refl
no_reset (suc (suc count)) = no_reset count

-- what holds of an answer leads to what follows from it
ok_leads : {A B : Type 0} (P Q : A → Type 0) (r : Result A B) → ((x : A) → P x → Q x) → IfOk r P → IfOk r Q
ok_leads P Q (Ok x) leads holds = leads x holds
ok_leads P Q (Err x) leads holds = tt

err_leads : {A B : Type 0} (P Q : B → Type 0) (r : Result A B) → ((x : B) → P x → Q x) → IfErr r P → IfErr r Q
err_leads P Q (Ok x) leads holds = tt
err_leads P Q (Err x) leads holds = leads x holds

-- What holds at a stage at which a load has ended.
record Ended (May : Answers) (items : List Item) (answer : Result (Unit {0}) LoadFault) (w : LoadState) : Type 0 where
  ended : HasEnded May items answer w
  cleared : answer ≡ Ok tt → IsCleared (memory_of w)
  transfers : answer ≡ Ok tt → IfOk (script_in items) (λ script. w.attached.device.finished ≡ moves items script w.placed)

not_ok : (why : LoadFault) → (let answer : Result (Unit {0}) LoadFault = Err why in answer ≡ Ok tt) → ⊥
not_ok why is = subst (λ (r : Result (Unit {0}) LoadFault). IfOk r (λ done. ⊥)) is tt

stage_ended : (May : Answers) (items : List Item) (answer : Result (Unit {0}) LoadFault) (w : LoadState) → StageKeeps May items w (stage_after answer)
    → Ended May items answer w
stage_ended May items (Ok nothing) w keeps = record { ended = keeps.0; cleared = λ is. keeps.2; transfers = λ is. keeps.1 }
stage_ended May items (Err why) w keeps =
    record { ended = keeps; cleared = λ is. absurd (not_ok why is); transfers = λ is. absurd (not_ok why is) }

-- A load that has ended, over events of a plan and some that ended it, has left what a whole load leaves.
pub loaded_over : (May : Answers) (its : Opening) (events : List Event) (closing : ℕ) (handed : List Range) (answer : Result (Unit {0}) LoadFault)
    (w : LoadState) → IsKept May its (events ++ closing_events closing) w → w.stage ≡ stage_after answer → handed ≡ placed_ranges w.placed
    → IsLoadedOver May its events handed answer w
loaded_over May its events closing handed answer w kept is placed =
    let at_end = stage_ended May its.items answer w (subst (StageKeeps May its.items w) is kept.now.stage) in
    record {
      unread = err_leads _ _ (script_in its.items) (λ why so. (so.0, placed ∙ ap placed_ranges so.1, so.2)) at_end.ended.unread;
      ran = ok_leads _ _ (script_in its.items) (λ script so. (
        so.0,
        is_run May (files_of its.items) script handed so.0 _ so.1 (placed ∙ sym (ranges_in (memory_of w) w.placed)),
        so.2,
      )) at_end.ended.ran;
      stage = is;
      placed = placed;
      apart = kept.now.loading.apart;
      shape = kept.now.shape;
      idle = at_end.ended.idle;
      top = kept.now.top;
      fill = kept.now.fill;
      others = λ address ram other beside told.
          kept.others address ram other beside (told_behind its.top events (closing_events closing) address (no_reset closing) told)
          ∙ left_more its.top its.fill events (closing_events closing) address
          ∙ left_closing its.top (left_by_others its.top its.fill events address) closing address;
      bios = kept.now.bios;
      cleared = at_end.cleared;
      transfers = at_end.transfers;
    }
