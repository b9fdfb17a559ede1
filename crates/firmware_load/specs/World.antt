-- The world of a load over events: the load that was begun, if one was, and how far it is.
use Rattle.std.specs.Prelude.{◌≡◌, ℕ, ◌⊎◌, ◌<◌, ◌≤◌, Bool, List, [], ◌++◌, Option, Some, None, Result}
use Rattle.vt_outside.specs.Placement.{Range}
use Rattle.vt_outside.specs.Stream.{next_count}
use Rattle.zone_alloc.specs.Allocators.{AllocState}
use Rattle.command_acts.specs.declared.fault.LoadFault.{LoadFault}
use Rattle.command_acts.specs.declared.fault.LoadFault.TheVariants.{NoRoom}
use Rattle.firmware_load.specs.declared.state.State.{State}
use Rattle.firmware_load.specs.declared.state.State.TheVariants as state
use Rattle.load_states.specs.declared.event.Event.{Event}
use Rattle.load_states.specs.declared.stage.Stage.{Stage}
use Rattle.load_states.specs.declared.stage.Stage.TheVariants.{Asks, Awaits, AtCommand, AwaitsSkip, AsksWrite, AwaitsWrite, Done, Refused}
use Rattle.command_acts.specs.Runs.{Answers}
use Rattle.load_states.specs.Loads.{IsLoadedOver, most_closing}
use Rattle.load_states.specs.LoadState.{LoadState, opening_of}
use Rattle.load_states.specs.Pieces.{IsRunSince}
use Rattle.load_states.specs.Runs.{EndsAfter, closing_events, request_of}
use Rattle.load_states.specs.Touching.{MayTouchOver}
use Rattle.guest_memory.specs.Touched.{TouchesOnly}

-- What is seen of a world: the load that was begun, if one was, and of each frame of its memory, in order, whether it is touched. Where none was
-- begun there are no frames.
pub record WorldState : Type 0 where
  pub load : Option LoadState
  pub touched : List Bool

-- a world in which nothing was begun
abbrev pub idle_world : WorldState
idle_world = record { load = None; touched = [] }

-- the state of a world whose firmware is so far
abbrev pub state_at : Stage → State
state_at Done = state.Done
state_at (Refused why) = state.Refused why
state_at (Asks reading) = state.Running
state_at (Awaits reading) = state.Running
state_at (AtCommand index) = state.Running
state_at (AwaitsSkip index) = state.Running
state_at (AsksWrite index) = state.Running
state_at (AwaitsWrite index) = state.Running

-- the state of a world, which is idle where nothing was begun
abbrev pub state_of : Option LoadState → State
state_of None = state.Idle
state_of (Some w) = state_at w.stage

-- A step that comes to NoRoom was refused by the allocator, once: it counted one refusal, and the request that it refused is the step's.
abbrev pub IsWithoutRoom : Event → LoadState → LoadState → AllocState → AllocState → Type 0
IsWithoutRoom event before after alloc_before alloc_after = (index : ℕ) → after.stage ≡ Refused (NoRoom index)
    → (before.stage ≡ Refused (NoRoom index))
    ⊎ ((alloc_after.refusals ≡ next_count alloc_before.refusals) × (alloc_after.refused ≡ request_of event before))

-- And where it doesn't come to NoRoom nothing was refused.
abbrev pub IsSound : LoadState → LoadState → AllocState → AllocState → Type 0
IsSound before after alloc_before alloc_after = ((index : ℕ) → (after.stage ≡ Refused (NoRoom index)) → before.stage ≡ Refused (NoRoom index))
    → alloc_after.refusals ≡ alloc_before.refusals

-- A whole load from one that was begun, over the events that it has taken of a plan and, where the plan has no more, over some that end it. It
-- is the run over these, no shorter one has ended, and it leaves what a whole load leaves. What came before the last reset among them is
-- forgotten, but for memory.
pub record IsLoadOver (May : Answers) (begun : LoadState) (left_before left : List Event) (handed : List Range)
    (answer : Result (Unit {0}) LoadFault) (w : LoadState) : Type 0 where
  pub taken : List Event
  pub closing : ℕ
  pub plan : left_before ≡ taken ++ left
  pub few : closing ≤ most_closing (opening_of begun).items
  pub after_plan : 0 < closing → left ≡ []
  pub ran : EndsAfter May (taken ++ closing_events closing) begun w
  pub since : IsRunSince May begun begun (taken ++ closing_events closing) w
  pub leaves : IsLoadedOver May (opening_of begun) taken handed answer w

-- Of the frames of a memory below a top those alone were touched that the events which were taken of a plan let a load touch, where these
-- ranges were handed out for its files.
pub record TouchesByPlan (top : ℕ) (left_before left : List Event) (handed : List Range) (before now : List Bool) : Type 0 where
  pub taken : List Event
  pub plan : left_before ≡ taken ++ left
  pub touches : TouchesOnly (MayTouchOver top taken handed) top before now
