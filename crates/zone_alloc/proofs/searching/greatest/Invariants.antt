use Rattle.zone_alloc.specs.Ranges.{range_of}
use Rattle.zone_alloc.proofs.Reached.{IsReachedBack}
use Rattle.zone_alloc.proofs.searching.greatest.Given as goal

abbrev pub invariant-loop-index : goal.invariant-loop-index
invariant-loop-index l = IsReachedBack (range_of l.zone) l.ranges l.size l.align l.index l.place
