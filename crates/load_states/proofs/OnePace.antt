-- Runs go at one pace, whatever their places.
use Rattle.std.proofs.Common.{◌≡◌, false, List, [], ◌∷◌, sym, ap, ap₂, subst, ◌∙◌}
use Rattle.std.proofs.lemmas.Bool.{true≢false}
use Rattle.cfg_dma.specs.Device.{DeviceState}
use Rattle.command_acts.specs.Allocators.{AreLawful}
use Rattle.command_acts.specs.Runs.{Answers}
use Rattle.load_states.specs.declared.event.Event.{Event}
use Rattle.load_states.specs.declared.stage.Stage.{Stage}
use Rattle.load_states.specs.declared.stage.Stage.TheVariants.{Asks, Awaits, AtCommand, AwaitsSkip, AsksWrite, AwaitsWrite, Done, Refused}
use Rattle.load_states.specs.LoadState.{LoadState, Opening}
use Rattle.load_states.specs.Loads.{IsBegun}
use Rattle.load_states.specs.Kept.{KeepsNow}
use Rattle.load_states.proofs.Opening.{begun_keeps}
use Rattle.load_states.proofs.StepKeeps.{step_keeps_now}
use Rattle.load_states.specs.Pieces.{IsUnended}
use Rattle.load_states.specs.Runs.{NeverEnds, RunsTo, has_ended}
use Rattle.load_states.specs.Pace.{Pace, pace_of, moved_in, paced_over, opening_pace, IsUnrefused}
use Rattle.load_states.proofs.StepsPaced.{step_paced}

-- a load that goes on isn't refused
unrefused : (s : Stage) → has_ended s ≡ false → IsUnrefused s
unrefused (Asks reading) on = tt
unrefused (Awaits reading) on = tt
unrefused (AtCommand index) on = tt
unrefused (AwaitsSkip index) on = tt
unrefused (AsksWrite index) on = tt
unrefused (AwaitsWrite index) on = tt
unrefused Done on = tt
unrefused (Refused why) on = absurd (true≢false on)

-- nor is one from which a run goes to one that isn't
before_unrefused : (May : Answers) (events : List Event) (w last : LoadState) → RunsTo May events w last → IsUnrefused last.stage → IsUnrefused w.stage
before_unrefused May [] w last runs is = subst (λ (x : LoadState). IsUnrefused x.stage) runs is
before_unrefused May (event ∷ events) w last runs is = unrefused w.stage runs.0

pub run_paced : (May : Answers) (its : Opening) (events : List Event) (w last : LoadState) → AreLawful May its.top
    → KeepsNow May its w → RunsTo May events w last → IsUnrefused last.stage → pace_of last ≡ paced_over its.items events (pace_of w)
run_paced May its [] w last lawful kept runs is = ap pace_of runs
run_paced May its (event ∷ events) w last lawful kept runs is =
    let next = runs.1.0 in
    run_paced May its events next last lawful (step_keeps_now May its event w next lawful kept runs.1.1) runs.1.2 is
    ∙ ap (paced_over its.items events)
    (step_paced May its event w next lawful kept runs.1.1 (before_unrefused May events next last runs.1.2 is))

-- a load that is begun has the opening pace
begun_paced : (its : Opening) (w : LoadState) → IsBegun its w → pace_of w ≡ opening_pace
begun_paced its w is =
    ap₂ (λ stage moved. let p : Pace = record { stage = stage; moved = moved } in p) is.stage (ap (λ (d : DeviceState). moved_in d.flight) is.device)

pub one_pace : (May More : Answers) (its : Opening) (events : List Event) (begun w other : LoadState) → AreLawful May its.top
    → AreLawful More its.top → IsBegun its begun → RunsTo May events begun w → RunsTo More events begun other → IsUnrefused w.stage
    → IsUnrefused other.stage → pace_of other ≡ pace_of w
one_pace May More its events begun w other lawful also is runs others one two =
    run_paced More its events begun other also (begun_keeps More its begun is).now others two
    ∙ sym (run_paced May its events begun w lawful (begun_keeps May its begun is).now runs one)

-- what a load keeps it keeps over a run
pub run_keeps : (May : Answers) (its : Opening) (events : List Event) (w last : LoadState) → AreLawful May its.top → KeepsNow May its w
    → RunsTo May events w last → KeepsNow May its last
run_keeps May its [] w last lawful kept runs = subst (KeepsNow May its) (sym runs) kept
run_keeps May its (event ∷ events) w last lawful kept runs =
    run_keeps May its events runs.1.0 last lawful (step_keeps_now May its event w runs.1.0 lawful kept runs.1.1) runs.1.2

-- Where a run over events hasn't ended, none has whose answers lead to no refusal.
pub never_ends : (May More : Answers) (its : Opening) (events : List Event) (begun : LoadState) → AreLawful May its.top → AreLawful More its.top
    → IsBegun its begun → ((last : LoadState) → RunsTo More events begun last → IsUnrefused last.stage) → IsUnended May events begun
    → NeverEnds More events begun
never_ends May More its events begun lawful also is goes_on unended = λ last runs.
    ap (λ (p : Pace). has_ended p.stage)
    (one_pace May More its events begun unended.0 last lawful also is unended.1 runs (unrefused unended.0.stage unended.2) (goes_on last runs))
    ∙ unended.2
