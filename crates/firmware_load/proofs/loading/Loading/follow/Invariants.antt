use Rattle.std.proofs.Common.{◌≡◌, List, ◌++◌, length}
use Rattle.command_acts.specs.Allocators.{MayAnswer}
use Rattle.command_acts.specs.FilesInMemory.{placed_ranges}
use Rattle.command_acts.specs.Runs.{Answers}
use Rattle.load_states.specs.declared.event.Event.{Event}
use Rattle.load_states.specs.LoadState.{LoadState, Opening}
use Rattle.firmware_load.specs.Inside.{load_of, IsInside, KeepsInside, StaysBegun, IsOnRun, AsksOnTheWay, TouchesTaken}
use Rattle.firmware_load.proofs.loading.Loading.follow.Given as goal

abbrev pub decreases-loop-plan : goal.decreases-loop-plan
decreases-loop-plan g l = length (g.C.Schedule.plan l.plan).left

abbrev pub invariant-loop-plan : goal.invariant-loop-plan
invariant-loop-plan g l =
    let May : Answers = MayAnswer g.A.ZoneAlloc.state g.A.ZoneAlloc.gives (g.A.ZoneAlloc.state l.initial.place).begun in
    record {
      inside : KeepsInside l.self;
      begun_so : StaysBegun l.initial.self l.self;
      follows : (begun : LoadState) (before : List Event) → IsOnRun May begun before (load_of l.initial.self)
          → (taken : List Event) × ((g.C.Schedule.plan l.initial.plan).left ≡ taken ++ (g.C.Schedule.plan l.plan).left)
          × IsOnRun May begun (before ++ taken) (load_of l.self);
      events : (g.C.Schedule.plan l.plan).events ≡ (g.C.Schedule.plan l.initial.plan).events;
      asks : (its : Opening) → IsInside its l.initial.self
          → AsksOnTheWay its.items l.initial.self l.self (g.A.ZoneAlloc.state l.initial.place) (g.A.ZoneAlloc.state l.place);
      handed : (g.A.ZoneAlloc.state l.place).handed ≡ placed_ranges l.self.guest.placements.placed.items;
      touches : TouchesTaken (g.C.Schedule.plan l.initial.plan).left (g.C.Schedule.plan l.plan).left l.initial.self.guest l.self.guest;
      begun : (g.A.ZoneAlloc.state l.place).begun ≡ (g.A.ZoneAlloc.state l.initial.place).begun;
    }
