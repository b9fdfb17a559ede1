-- What a world keeps from its beginning on is kept over two steps.
use Rattle.std.proofs.Common.{◌≡◌, ℕ, List, [], ◌∷◌, ◌++◌, Option, Some, None, IfSome, sym, subst}
use Rattle.std.specs.Prelude.{IsSomeAnd}
use Rattle.zone_alloc.specs.declared.alloc.Request.{Request}
use Rattle.zone_alloc.specs.Allocators.{AllocState, Begun}
use Rattle.command_acts.specs.Allocators.{MayAnswer}
use Rattle.command_acts.specs.Runs.{Answers}
use Rattle.load_states.specs.declared.event.Event.{Event}
use Rattle.load_states.specs.Kept.{IsKept}
use Rattle.load_states.specs.LoadState.{LoadState, Opening}
use Rattle.load_states.specs.Runs.{NoAnswer}

-- what a step keeps for these answers, of what was kept before for those
abbrev StepKeeps : Answers → Answers → Event → Option LoadState → Option LoadState → Type 0
StepKeeps Before May event before after =
    IfSome before (λ old. IsSomeAnd after (λ new. (its : Opening) (events : List Event)
    → IsKept Before its events old → IsKept May its (events ++ event ∷ []) new))

pub kept_over_two : {A : Type 0} (state_of : A → AllocState) (gives : A → Request → Option ℕ → Type 0) (begun between end : Begun)
    (its : Opening) (first second : Event) (opening middle last : Option LoadState)
    → IsSomeAnd opening (IsKept NoAnswer its [])
    → StepKeeps NoAnswer (MayAnswer state_of gives begun) first opening middle → between ≡ begun
    → StepKeeps (MayAnswer state_of gives between) (MayAnswer state_of gives between) second middle last → end ≡ between
    → IsSomeAnd last (IsKept (MayAnswer state_of gives end) its (first ∷ second ∷ []))
kept_over_two state_of gives begun between end its first second None middle last kept one still two so = absurd kept
kept_over_two state_of gives begun between end its first second (Some w) None last kept one still two so = absurd one
kept_over_two state_of gives begun between end its first second (Some w) (Some m) None kept one still two so = absurd two
kept_over_two state_of gives begun between end its first second (Some w) (Some m) (Some n) kept one still two so =
    let behind_first = subst (λ (b : Begun). IsKept (MayAnswer state_of gives b) its (first ∷ []) m) (sym still) (one its [] kept) in
    subst (λ (b : Begun). IsKept (MayAnswer state_of gives b) its (first ∷ second ∷ []) n) (sym so)
    (two its (first ∷ []) behind_first)
