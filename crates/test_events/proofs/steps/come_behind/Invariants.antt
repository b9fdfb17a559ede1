use Rattle.std.proofs.Common.{◌≡◌, true, IsSome, IfSome}
use Rattle.command_acts.specs.Allocators.{AreZonesOf}
use Rattle.command_acts.specs.FilesInMemory.{placed_ranges}
use Rattle.test_events.proofs.steps.come_behind.Given as goal

abbrev pub invariant-loop-count : goal.invariant-loop-count
invariant-loop-count g l = record {
  some : IsSome l.world.load;
  begun : (g.A.ZoneAlloc.state l.place).begun.ready ≡ true;
  zones : AreZonesOf 0x4000000 (g.A.ZoneAlloc.state l.place).begun.zones;
  handed : IfSome l.world.load (λ w. (g.A.ZoneAlloc.state l.place).handed ≡ placed_ranges w.placed);
}
