-- Each step of the load keeps what it keeps.
use Rattle.std.proofs.Common.{◌≡◌, ℕ, false, List, [], ◌∷◌, ◌++◌, Option, Some, None, refl, sym, subst, ◌∙◌}
use Rattle.std.specs.Prelude.{MatchOption}
use Rattle.zone_alloc.specs.declared.alloc.Request.{Request}
use Rattle.command_acts.specs.Allocators.{AreLawful}
use Rattle.command_acts.specs.FilesInMemory.{placed_ranges}
use Rattle.command_acts.specs.Runs.{Answers}
use Rattle.load_states.specs.declared.event.Event.{Event}
use Rattle.load_states.specs.declared.event.Event.TheVariants.{Device, Firmware, Other, Reset}
use Rattle.load_states.specs.declared.stage.Stage.{Stage}
use Rattle.load_states.specs.declared.stage.Stage.TheVariants.{Asks, Awaits, AtCommand, AwaitsSkip, AsksWrite, AwaitsWrite, Done, Refused}
use Rattle.load_states.specs.LoadState.{LoadState, Opening}
use Rattle.load_states.specs.Steps.{firmware_step}
use Rattle.load_states.specs.Runs.{StepsTo, request_at, left_by_others, has_reset}
use Rattle.load_states.specs.Kept.{KeepsNow, IsKept, StageKeeps}
use Rattle.load_states.proofs.CommandPoints.{skip_taken_keeps, write_asked_keeps, write_taken_keeps}
use Rattle.load_states.proofs.CommandSteps.{command_keeps}
use Rattle.load_states.proofs.DeviceEvents.{device_keeps}
use Rattle.load_states.proofs.LeftByOthers.{left_more, told_before}
use Rattle.load_states.proofs.Looks.{kept_waiting}
use Rattle.load_states.proofs.OtherEvents.{other_keeps, other_keeps_now}
use Rattle.load_states.proofs.Readings.{awaits_keeps}
use Rattle.load_states.proofs.ResetEvents.{reset_keeps, reset_keeps_now}
use Rattle.load_states.proofs.StartEvents.{asks_keeps}
use Rattle.load_states.proofs.Frames.{KeepsOn}

-- what a step of the firmware leads to, where it asks for a place or doesn't
abbrev pub FirmwareTo : Answers → Stage → Option Request → LoadState → LoadState → Type 0
FirmwareTo May s asked w next =
    MatchOption asked (next ≡ firmware_step s None w)
    (λ request. (answer : Option ℕ) × May (placed_ranges w.placed) request answer × (next ≡ firmware_step s answer w))

-- at a command, which may ask for a place
at_command_keeps : (May : Answers) (its : Opening) (w next : LoadState) (index : ℕ) (asked : Option Request) → AreLawful May its.top
    → KeepsNow May its w → StageKeeps May its.items w (AtCommand index) → request_at (AtCommand index) w ≡ asked → FirmwareTo May
    (AtCommand index) asked w next → KeepsOn May its w next
at_command_keeps May its w next index None lawful kept keeps is steps =
    subst (KeepsOn May its w) (sym steps)
    (command_keeps May its w index None lawful kept keeps
    (subst (λ (asked : Option Request). MatchOption asked (Unit {0}) (λ request. May (placed_ranges w.placed) request None)) (sym is) tt))
at_command_keeps May its w next index (Some request) lawful kept keeps is steps =
    subst (KeepsOn May its w) (sym steps.2)
    (command_keeps May its w index steps.0 lawful kept keeps
    (subst (λ (asked : Option Request). MatchOption asked (Unit {0}) (λ request. May (placed_ranges w.placed) request steps.0)) (sym is) steps.1))

-- a step of the firmware at each stage
firmware_keeps : (May : Answers) (its : Opening) (w next : LoadState) (s : Stage) → AreLawful May its.top → KeepsNow May its w
    → StageKeeps May its.items w s → FirmwareTo May s (request_at s w) w next → KeepsOn May its w next
firmware_keeps May its w next (Asks reading) lawful kept keeps steps = subst (KeepsOn May its w) (sym steps) (asks_keeps May its w reading kept keeps)
firmware_keeps May its w next (Awaits reading) lawful kept keeps steps =
    subst (KeepsOn May its w) (sym steps) (awaits_keeps May its w reading kept keeps)
firmware_keeps May its w next (AtCommand index) lawful kept keeps steps =
    at_command_keeps May its w next index (request_at (AtCommand index) w) lawful kept keeps refl steps
firmware_keeps May its w next (AwaitsSkip index) lawful kept keeps steps =
    subst (KeepsOn May its w) (sym steps) (skip_taken_keeps May its w index kept keeps)
firmware_keeps May its w next (AsksWrite index) lawful kept keeps steps =
    subst (KeepsOn May its w) (sym steps) (write_asked_keeps May its w index kept keeps)
firmware_keeps May its w next (AwaitsWrite index) lawful kept keeps steps =
    subst (KeepsOn May its w) (sym steps) (write_taken_keeps May its w index kept keeps)
firmware_keeps May its w next Done lawful kept keeps steps = subst (KeepsOn May its w) (sym steps) (kept_waiting May its w kept)
firmware_keeps May its w next (Refused why) lawful kept keeps steps = subst (KeepsOn May its w) (sym steps) (kept_waiting May its w kept)

-- Each step keeps what the load keeps at each moment, where places are answered lawfully.
pub step_keeps_now : (May : Answers) (its : Opening) (event : Event) (w next : LoadState) → AreLawful May its.top → KeepsNow May its w
    → StepsTo May event w next → KeepsNow May its next
step_keeps_now May its (Device bytes) w next lawful kept steps = subst (KeepsNow May its) (sym steps) (device_keeps May its w bytes None kept).now
step_keeps_now May its Firmware w next lawful kept steps = (firmware_keeps May its w next w.stage lawful kept kept.stage steps).now
step_keeps_now May its (Other address byte) w next lawful kept steps =
    subst (KeepsNow May its) (sym steps) (other_keeps_now May its w address byte kept)
step_keeps_now May its Reset w next lawful kept steps = subst (KeepsNow May its) (sym steps) (reset_keeps_now May its w kept)

-- A step that leaves memory as it was, but for what is the load's own, adds nothing to what the other processors left.
on_keeps : (May : Answers) (its : Opening) (events : List Event) (event : Event) (w next : LoadState) → has_reset (event ∷ []) ≡ false →
    ((held address : ℕ) → left_by_others its.top held (event ∷ []) address ≡ held) → IsKept May its events w → KeepsOn May its w next → IsKept May its
    (events ++ event ∷ []) next
on_keeps May its events event w next none adds kept on = record {
  now = on.now;
  others = λ address ram other beside told.
      on.outside address ram other beside
      ∙ kept.others address ram other (on.beside address beside) (told_before its.top events (event ∷ []) address none told)
      ∙ sym (left_more its.top its.fill events (event ∷ []) address ∙ adds (left_by_others its.top its.fill events address) address);
}

-- So each keeps it over events.
pub step_keeps : (May : Answers) (its : Opening) (events : List Event) (event : Event) (w next : LoadState) → AreLawful May its.top
    → IsKept May its events w → StepsTo May event w next → IsKept May its (events ++ event ∷ []) next
step_keeps May its events (Device bytes) w next lawful kept steps =
    on_keeps May its events (Device bytes) w next refl (λ held address. refl) kept
    (subst (KeepsOn May its w) (sym steps) (device_keeps May its w bytes None kept.now))
step_keeps May its events Firmware w next lawful kept steps =
    on_keeps May its events Firmware w next refl (λ held address. refl) kept
    (firmware_keeps May its w next w.stage lawful kept.now kept.now.stage steps)
step_keeps May its events (Other address byte) w next lawful kept steps =
    subst (IsKept May its (events ++ Other address byte ∷ [])) (sym steps) (other_keeps May its events w address byte kept)
step_keeps May its events Reset w next lawful kept steps =
    subst (IsKept May its (events ++ Reset ∷ [])) (sym steps) (reset_keeps May its events w kept)
