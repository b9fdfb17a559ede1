use Rattle.std.proofs.Common.{◌<◌, take}
use Rattle.std.specs.List.{AllByRecursion}
use Rattle.zone_alloc.specs.declared.searching.AddressRange.{AddressRange}
use Rattle.zone_alloc.proofs.handed.first_behind.Given as goal

abbrev pub invariant-loop-index : goal.invariant-loop-index
invariant-loop-index l = AllByRecursion (λ (r : AddressRange). r.start < l.start) (take l.index l.ranges)
