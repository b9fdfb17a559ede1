-- Items that are loaded into a world's memory, by the places that an allocator gives, over the events of a plan.
use Rattle.std.specs.Prelude.{◌≡◌, ◌≢◌, ◌⊎◌, ℕ, List, Option, Some, None, Result, Err, IsSomeAnd}
use Rattle.vt_outside.specs.Placement.{Range, IsFree}
use Rattle.vt_outside.specs.Stream.{Rose}
use Rattle.cfg_directory.specs.declared.item.Item.{Item}
use Rattle.zone_alloc.specs.declared.alloc.Request.{Request}
use Rattle.vt_words.specs.declared.setting.Setting.{Setting}
use Rattle.zone_alloc.specs.Zones.{zone_range}
use Rattle.command_acts.specs.Runs.{Answers}
use Rattle.command_acts.specs.declared.fault.LoadFault.{LoadFault}
use Rattle.command_acts.specs.declared.fault.LoadFault.TheVariants.{NoRoom}
use Rattle.command_acts.specs.Allocators.{AreZonesOf}
use Rattle.command_acts.specs.Script.{IsAsked}
use Rattle.load_states.specs.Loads.{IsBegun}
use Rattle.load_states.specs.LoadState.{LoadState, begun_with}
use Rattle.firmware_load.specs.World.{IsLoadOver, idle_world}
use Rattle.vmtables.specs.Calls.{Answering, Seen}
use Rattle.vmtables.specs.declared.fault.Fault.{Fault}
use Rattle.vmtables.specs.declared.fault.Fault.TheVariants as fault

-- The load of items answered so: a world was begun with them and a memory of this top and the fill byte of a setting, an allocator with the
-- zones of that memory and the setting's policy, and a plan with its seed, and the world is what the load leaves over the events of the
-- plan. The allocator refused a request exactly where the load finds no room, and then the last one that it refused is that of the command.
pub record IsImageLoaded (Gives : Answering) (items : List Item) (top : ℕ) (setting : Setting)
    (answer : Result (Unit {0}) LoadFault) (before after : Seen) : Type 0 where
  pub begun : LoadState
  pub was_begun : IsBegun (begun_with items top setting.fill) begun
  pub world : LoadState
  pub world_is : after.world.load ≡ Some world
  pub load : IsLoadOver (Gives after.place.begun) begun (before.plan.events setting.seed) after.plan.left after.place.handed answer world
  pub events : after.plan.events ≡ before.plan.events
  pub zones : AreZonesOf top after.place.begun.zones
  pub policy_is : after.place.begun.policy ≡ setting.policy
  pub no_room : (index : ℕ) → answer ≡ Err (NoRoom index)
      → Rose before.place.refusals after.place.refusals × IsAsked items index after.place.refused
  pub sound : ((index : ℕ) → answer ≢ Err (NoRoom index)) → after.place.refusals ≡ before.place.refusals

-- What was asked of an allocator that had handed out these ranges is a request that it refuses, answering so, though a place below the top
-- is free for it.
pub record IsRefusedFree (May : Answers) (top : ℕ) (handed : List Range) (asked : Option Request) : Type 0 where
  pub request : Request
  pub asked_is : asked ≡ Some request
  pub refusal : May handed request None
  pub place : ℕ
  pub free : IsFree (zone_range top request.zone) handed request.size request.align place

-- Memory ran out before the load: the plan is as it was, and either the world is idle and the allocator as it was, or the world is as it
-- was begun.
abbrev pub IsUnloaded : List Item → ℕ → ℕ → Seen → Seen → Type 0
IsUnloaded items top fill before after =
    (after.plan ≡ before.plan)
    × (((after.world ≡ idle_world) × (after.place ≡ before.place)) ⊎ IsSomeAnd after.world.load (IsBegun (begun_with items top fill)))

-- How the loading of items fails: it ended before its script did, or memory ran out before.
pub data FailsToLoad (Gives : Answering) (items : List Item) (top : ℕ) (setting : Setting) (before after : Seen) : Fault → Type 0 where
  ended_early : {why : LoadFault} → IsImageLoaded Gives items top setting (Err why) before after
      → FailsToLoad Gives items top setting before after (fault.Load why)
  not_begun : IsUnloaded items top setting.fill before after → FailsToLoad Gives items top setting before after fault.OutOfMemory
