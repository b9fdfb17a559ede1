use Rattle.zone_alloc.specs.Ranges.{range_of}
use Rattle.zone_alloc.proofs.Reached.{IsReached}
use Rattle.zone_alloc.proofs.searching.least_from.Given as goal

abbrev pub invariant-loop-range : goal.invariant-loop-range
invariant-loop-range l = IsReached l.goal (range_of l.zone) l.ranges l.size l.align l.range-index l.place
