use Rattle.std.proofs.Common.{◌≡◌, []}
use Rattle.command_acts.specs.Allocators.{MayAnswer}
use Rattle.command_acts.specs.FilesInMemory.{placed_ranges}
use Rattle.command_acts.specs.Runs.{Answers}
use Rattle.load_states.specs.LoadState.{Opening}
use Rattle.firmware_load.specs.Inside.{load_of, IsInside, KeepsInside, StaysBegun, AsksOnTheWay, TouchesOver}
use Rattle.firmware_load.proofs.Turns.{Closes, turns_left}
use Rattle.firmware_load.proofs.loading.Loading.close.Given as goal

abbrev pub decreases-loop-self : goal.decreases-loop-self
decreases-loop-self g l = turns_left (load_of l.self)

abbrev pub invariant-loop-self : goal.invariant-loop-self
invariant-loop-self g l =
    let May : Answers = MayAnswer g.A.ZoneAlloc.state g.A.ZoneAlloc.gives (g.A.ZoneAlloc.state l.initial.place).begun in
    record {
      inside : KeepsInside l.self;
      begun_so : StaysBegun l.initial.self l.self;
      closes : Closes May (load_of l.initial.self) (load_of l.self);
      asks : (its : Opening) → IsInside its l.initial.self
          → AsksOnTheWay its.items l.initial.self l.self (g.A.ZoneAlloc.state l.initial.place) (g.A.ZoneAlloc.state l.place);
      handed : (g.A.ZoneAlloc.state l.place).handed ≡ placed_ranges l.self.guest.placements.placed.items;
      touches : TouchesOver [] l.initial.self.guest l.self.guest;
      begun : (g.A.ZoneAlloc.state l.place).begun ≡ (g.A.ZoneAlloc.state l.initial.place).begun;
    }
