-- Items that were loaded by the places that an allocator gave.
use Rattle.std.proofs.Common.{◌≡◌, ◌≢◌, ◌≤◌, ℕ, List, Option, Some, None, Result, Ok, Err, IfSome, IsSomeAnd, IfErr, refl, ap, ap₂, sym, subst, ◌∙◌}
use Rattle.std.proofs.Math.Nat.{le_refl}
use Rattle.std.specs.Result.{IsErrAnd}
use Rattle.vt_outside.specs.Placement.{high_zone, f_segment}
use Rattle.vt_outside.specs.Stream.{Rose, next_count}
use Rattle.cfg_directory.specs.declared.item.Item.{Item}
use Rattle.vt_words.specs.declared.setting.Setting.{Setting}
use Rattle.zone_alloc.specs.Allocators.{AllocState, Begun}
use Rattle.firmware_load.specs.Schedules.{Plan}
use Rattle.zone_alloc.specs.declared.zone.Zone.TheVariants.{High, Fseg}
use Rattle.zone_alloc.specs.declared.zones.Zones.{Zones}
use Rattle.command_acts.specs.declared.fault.LoadFault.{LoadFault}
use Rattle.command_acts.specs.declared.fault.LoadFault.TheVariants.{NoRoom}
use Rattle.command_acts.specs.Allocators.{AreZonesOf}
use Rattle.command_acts.specs.Script.{IsAsked}
use Rattle.cfg_dma.specs.Device.{DeviceState}
use Rattle.load_states.specs.Loads.{IsBegun}
use Rattle.load_states.specs.LoadState.{LoadState, begun_with}
use Rattle.firmware_load.specs.World.{IsLoadOver}
use Rattle.vmtables.specs.Calls.{Answering, Seen}
use Rattle.vmtables.specs.Loading.{IsImageLoaded, IsUnloaded, FailsToLoad, ended_early, not_begun}
use Rattle.vmtables.specs.declared.fault.Fault.{Fault}
use Rattle.vmtables.specs.declared.fault.Fault.TheVariants as fault

-- the zones of a top are those of memory below it
pub zones_are : (zones : Zones) (top : ℕ) → zones.high_start ≡ (high_zone top).start → zones.high_end ≡ (high_zone top).end
    → zones.fseg_start ≡ f_segment.start → zones.fseg_end ≡ f_segment.end → AreZonesOf top zones
zones_are zones top high_start high_end fseg_start fseg_end High = ap₂ (λ s e. record { start = s; end = e }) high_start high_end
zones_are zones top high_start high_end fseg_start fseg_end Fseg = ap₂ (λ s e. record { start = s; end = e }) fseg_start fseg_end

-- What is known of a load between two of its calls: the world, the allocator and the plan as they were begun, and how the load left them.
pub record IsRunOf (Gives : Answering) (items : List Item) (top : ℕ) (setting : Setting) (answer : Result (Unit {0}) LoadFault)
    (before after : Seen) (began : Option LoadState) (between : AllocState) (plan : Plan) : Type 0 where
  pub was_begun : IsSomeAnd began (IsBegun (begun_with items top setting.fill))
  pub loaded : IfSome began (λ old. IsSomeAnd after.world.load (IsLoadOver (Gives between.begun) old plan.left after.plan.left after.place.handed answer))
  pub plan_is : plan ≡ record before.plan { left = before.plan.events setting.seed }
  pub events_stay : after.plan.events ≡ plan.events
  pub begun_stays : after.place.begun ≡ between.begun
  pub zones : AreZonesOf top between.begun.zones
  pub policy : between.begun.policy ≡ setting.policy
  pub refusals : between.refusals ≡ before.place.refusals
  pub no_room : (index : ℕ) → answer ≡ Err (NoRoom index)
      → (after.place.refusals ≡ next_count between.refusals) × IfSome began (λ w. IsAsked w.attached.device.items index after.place.refused)
  pub sound : ((index : ℕ) → answer ≢ Err (NoRoom index)) → after.place.refusals ≡ between.refusals

-- a count that has counted one more rose
rose_by_one : (before after : ℕ) → after ≡ next_count before → Rose before after
rose_by_one before after is = subst (λ n. next_count before ≤ n) (sym is) (le_refl (next_count before))

-- a world that is there
there : {P : LoadState → Type 0} (world : Option LoadState) → IsSomeAnd world P → (w : LoadState) × (world ≡ Some w) × P w
there None holds = absurd holds
there (Some w) holds = (w, refl, holds)

pub items_loaded : (Gives : Answering) (items : List Item) (top : ℕ) (setting : Setting) (answer : Result (Unit {0}) LoadFault)
    (before after : Seen) (began : Option LoadState) (between : AllocState) (plan : Plan)
    → IsRunOf Gives items top setting answer before after began between plan → IsImageLoaded Gives items top setting answer before after
items_loaded Gives items top setting answer before after None between plan run = absurd run.was_begun
items_loaded Gives items top setting answer before after (Some begun) between plan run =
    let world = there after.world.load run.loaded in
    let left_is : plan.left ≡ before.plan.events setting.seed = ap (λ (p : Plan). p.left) run.plan_is in
    record {
      begun = begun;
      was_begun = run.was_begun;
      world = world.0;
      world_is = world.1;
      load = subst (λ b. IsLoadOver (Gives b) begun (before.plan.events setting.seed) after.plan.left after.place.handed answer world.0)
          (sym run.begun_stays)
          (subst (λ those. IsLoadOver (Gives between.begun) begun those after.plan.left after.place.handed answer world.0) left_is world.2);
      events = run.events_stay ∙ ap (λ (p : Plan). p.events) run.plan_is;
      zones = subst (λ (b : Begun). AreZonesOf top b.zones) (sym run.begun_stays) run.zones;
      policy_is = ap (λ (b : Begun). b.policy) run.begun_stays ∙ run.policy;
      no_room = λ index is.
          let said = run.no_room index is in (
            rose_by_one before.place.refusals after.place.refusals (said.0 ∙ ap next_count run.refusals),
            subst (λ those. IsAsked those index after.place.refused) (ap (λ (d : DeviceState). d.items) run.was_begun.device) said.1,
          );
      sound = λ other. run.sound other ∙ run.refusals;
    }

-- a load that ended with a fault failed with it
pub failed_so : (Gives : Answering) (items : List Item) (top : ℕ) (setting : Setting) (why : LoadFault) (before after : Seen)
    (r : Result (Unit {0}) Fault) → IsErrAnd r (λ ended. ended ≡ fault.Load why)
    → IsImageLoaded Gives items top setting (Err why) before after → IfErr r (FailsToLoad Gives items top setting before after)
failed_so Gives items top setting why before after (Ok nothing) is loaded = absurd is
failed_so Gives items top setting why before after (Err ended) is loaded = rw is (ended_early loaded)

-- and one for which memory ran out before failed for that
pub unloaded_so : (Gives : Answering) (items : List Item) (top : ℕ) (setting : Setting) (before after : Seen)
    (r : Result (Unit {0}) Fault) → IsErrAnd r (λ ended. ended ≡ fault.OutOfMemory)
    → IsUnloaded items top setting.fill before after → IfErr r (FailsToLoad Gives items top setting before after)
unloaded_so Gives items top setting before after (Ok nothing) is unloaded = absurd is
unloaded_so Gives items top setting before after (Err ended) is unloaded = rw is (not_begun unloaded)
