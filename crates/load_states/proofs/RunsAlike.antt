-- Runs over another memory.
use Rattle.std.proofs.Common.{◌≡◌, ℕ, false, Option, None, Some, refl, sym, ap, subst, ◌∙◌}
use Rattle.vt_bytes.specs.Memory.{Memory}
use Rattle.zone_alloc.specs.declared.alloc.Request.{Request}
use Rattle.command_acts.specs.Runs.{Answers}
use Rattle.load_states.specs.declared.event.Event.{Event}
use Rattle.load_states.specs.LoadState.{LoadState, Opening, memory_of, with_memory}
use Rattle.load_states.specs.Kept.{KeepsNow}
use Rattle.load_states.specs.Pieces.{SameButMemory, AgreeButMemory}
use Rattle.load_states.specs.Steps.{step}
use Rattle.load_states.specs.Runs.{StepsBy, StepsTo, request_of, has_ended}
use Rattle.load_states.proofs.StepsAlike.{KeepsOverBoth, step_alike, request_alike}

-- ---- one step, of which the allocator may answer a part

-- the step of one load, over the memory of another one
abbrev StepsLike : Answers → Event → LoadState → LoadState → Type 0
StepsLike May event other next = (after : LoadState) × StepsTo May event other after × SameButMemory next after

asked_like : (May : Answers) (event : Event) (asked : Option Request) (w next : LoadState) (n : Memory)
    → ((answer : Option ℕ) → SameButMemory (step event answer w) (step event answer (with_memory w n))) → StepsBy May event w next asked
    → (after : LoadState) × StepsBy May event (with_memory w n) after asked × SameButMemory next after
asked_like May event None w next n same is =
    (step event None (with_memory w n), refl, subst (λ x. SameButMemory x (step event None (with_memory w n))) (sym is) (same None))
asked_like May event (Some request) w next n same is = (
  step event is.0 (with_memory w n),
  (is.0, is.1, refl),
  subst (λ x. SameButMemory x (step event is.0 (with_memory w n))) (sym is.2) (same is.0),
)

steps_like : (May More : Answers) (its : Opening) (event : Event) (w next : LoadState) (n : Memory) → KeepsOverBoth More More its w n
    → StepsTo May event w next → StepsLike May event (with_memory w n) next
steps_like May More its event w next n both steps =
    let like = asked_like May event (request_of event w) w next n (λ answer. step_alike More More its event answer w n both) steps in
    (like.0, subst (StepsBy May event (with_memory w n) like.0) (sym (request_alike More More its event w n both)) like.1, like.2)

-- ---- loads that agree

-- One more step of loads that agree: they agree still.
pub record GoesAlike (May : Answers) (event : Event) (other next : LoadState) : Type 0 where
  pub after : LoadState
  pub steps : StepsTo May event other after
  pub same : SameButMemory next after

-- a step of one of two loads, of which the other is the one over its own memory
pub one_more : (May More : Answers) (its : Opening) (event : Event) (w other next : LoadState) → KeepsNow More its w → KeepsNow More its other
    → SameButMemory w other → StepsTo May event w next → GoesAlike May event other next
one_more May More its event w other next here there same steps =
    let like = steps_like May More its event w next (memory_of other) (record { here = here; there = subst (KeepsNow More its) same there }) steps in
    record { after = like.0; steps = subst (λ (v : LoadState). StepsTo May event v like.0) (sym same) like.1; same = like.2 }

-- two loads at one stage have both ended or both not
pub still_running : (w other : LoadState) → SameButMemory w other → has_ended w.stage ≡ false → has_ended other.stage ≡ false
still_running w other same running = ap (λ (v : LoadState). has_ended v.stage) same ∙ running

-- two loads that were begun with the same, of which one is the other over its memory, agree
pub agreeing : (May : Answers) (its : Opening) (w other : LoadState) → KeepsNow May its w → KeepsNow May its other → SameButMemory w other
    → AgreeButMemory w other
agreeing May its w other here there same = record { same = same; top = there.top ∙ sym here.top; fill = there.fill ∙ sym here.fill }
