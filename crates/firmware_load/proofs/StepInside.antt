-- What a load keeps inside over a step.
use Rattle.std.proofs.Common.{◌≡◌, ℕ, ◌≤◌, Bool, List, [], ◌∷◌, ◌++◌, length, Option, Some, IfSome, IfOk, Vec, Global, sym, ap, subst, ◌∙◌}
use Rattle.cfg_directory.specs.declared.item.Item.{Item}
use Rattle.cfg_directory.specs.Files.{files_of}
use Rattle.loader_script.specs.declared.refusing.FileInfo.{FileInfo}
use Rattle.loader_script.specs.Run.{infos_of}
use Rattle.zone_alloc.specs.declared.alloc.Request.{Request}
use Rattle.zone_alloc.specs.Allocators.{AllocState, Begun}
use Rattle.command_acts.specs.Allocators.{AreZonesOf, MayAnswer}
use Rattle.command_acts.specs.Runs.{Answers}
use Rattle.command_acts.specs.Script.{script_in}
use Rattle.command_acts.proofs.Goes.{answers_are_lawful}
use Rattle.load_states.specs.declared.event.Event.{Event}
use Rattle.load_states.specs.LoadState.{LoadState, Opening, memory_of}
use Rattle.load_states.specs.Kept.{IsKept}
use Rattle.load_states.specs.Runs.{AnyLawful, StepsTo}
use Rattle.load_states.specs.Steps.{step}
use Rattle.firmware_load.specs.declared.loading.Loading.{Loading}
use Rattle.firmware_load.specs.Inside.{load_of, world_in, StaysBegun, HasRooms, SameRooms}
use Rattle.firmware_load.specs.World.{WorldState}
use Rattle.firmware_load.proofs.LoadStates.{of_world}
use Rattle.load_states.proofs.MoreAnswers.{MayMore, kept_more, lawful_more, steps_more}
use Rattle.load_states.proofs.StepKeeps.{step_keeps, step_keeps_now}

-- a load has the rooms still that it had
same_rooms : (items : List Item) (l next : Loading) → HasRooms items l → SameRooms l next → HasRooms items next
same_rooms items l next rooms same = record {
  listed = subst (λ room. length items ≤ room) (sym same.listed) rooms.listed;
  script = subst (λ room. IfOk (script_in items) (λ script. length script ≤ room)) (sym same.script) rooms.script;
  infos = subst (λ (infos : Vec FileInfo Global). infos.items ≡ infos_of (files_of items)) (sym same.infos) rooms.infos;
  placements = same.placements;
}

-- A step of a load whose places are given by an allocator of its memory keeps what is kept inside.
pub inside_after : {A : Type 0} (state_of : A → AllocState) (gives : A → Request → Option ℕ → Type 0) (begun : Begun)
    (l next : Loading) (event : Event) → AreZonesOf l.guest.memory.memory.top begun.zones
    → StepsTo (MayAnswer state_of gives begun) event (load_of l) (load_of next) → SameRooms l next → StaysBegun l next
inside_after state_of gives begun l next event are steps same its inside =
    let May : Answers = MayAnswer state_of gives begun in
    let w = load_of l in
    let zones : AreZonesOf its.top begun.zones = subst (λ t. AreZonesOf t begun.zones) inside.kept.top are in
    record {
      kept = step_keeps_now (AnyLawful its.top) its event w (load_of next) (λ handed request place free. free) inside.kept
          (steps_more May (AnyLawful its.top) (lawful_more May its.top (answers_are_lawful state_of gives begun its.top zones)) event w (load_of next) steps);
      rooms = same_rooms its.items l next inside.rooms same;
    }

-- So does a step of a world keep what is kept over the answers that its allocator may give, or over fewer.
pub kept_after : {A : Type 0} (state_of : A → AllocState) (gives : A → Request → Option ℕ → Type 0) (begun : Begun) (Fewer : Answers)
    → MayMore Fewer (MayAnswer state_of gives begun) → (seen : WorldState) (loading : Option Loading)
    (l next : Loading) (event : Event) → loading ≡ Some l → world_in loading ≡ seen
    → IfSome seen.load (λ w. AreZonesOf (memory_of w).top begun.zones)
    → StepsTo (MayAnswer state_of gives begun) event (load_of l) (load_of next)
    → IfSome seen.load (λ old. (its : Opening) (events : List Event)
    → IsKept Fewer its events old
    → IsKept (MayAnswer state_of gives begun) its (events ++ event ∷ []) (load_of next))
kept_after state_of gives begun Fewer more seen loading l next event is seen_is zones_are steps =
    let May : Answers = MayAnswer state_of gives begun in
    let same : world_in (Some l) ≡ seen = ap world_in (sym is) ∙ seen_is in
    let are : AreZonesOf l.guest.memory.memory.top begun.zones =
    subst (λ (w : WorldState). IfSome w.load (λ w. AreZonesOf (memory_of w).top begun.zones)) (sym same) zones_are in
    of_world (λ (w : LoadState) (touched : List Bool). (its : Opening) (events : List Event)
    → IsKept Fewer its events w → IsKept May its (events ++ event ∷ []) (load_of next)) seen loading l seen_is is
    (λ its events kept. step_keeps May its events event (load_of l) (load_of next)
    (answers_are_lawful state_of gives begun its.top (subst (λ t. AreZonesOf t begun.zones) kept.now.top are))
    (kept_more Fewer May more its events (load_of l) kept) steps)
