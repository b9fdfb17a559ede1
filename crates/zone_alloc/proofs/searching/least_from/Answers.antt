use Rattle.std.proofs.Common.{rules, ◌+◌, map, refl, subst, sym}
use Rattle.zone_alloc.specs.Places.{HasNoPlaceFrom}
use Rattle.zone_alloc.specs.Ranges.{range_of}
use Rattle.zone_alloc.proofs.Reached.{IsReached, reached_first, reached_past, reached_on, none_reached}
use Rattle.zone_alloc.proofs.searching.least_from.Goals as goal
use Rattle.zone_alloc.proofs.searching.least_from.Goals.{then-meets+in_ok-place-2, else-meets}

pub loop-range-init : goal.loop-range-init
loop-range-init c =
    reached_first c.args.goal (range_of c.args.zone) c.args.ranges.now c.args.size c.args.align c.in_ok-place.place c.in_ok-place.ensures.next

pub returns-in_err-place-2-clause-least : goal.returns-in_err-place-2-clause-least
returns-in_err-place-2-clause-least c =
    let none : HasNoPlaceFrom c.args.goal (range_of c.args.zone) (map range_of c.args.ranges.now) c.args.size c.args.align =
    none_reached c.args.goal (range_of c.args.zone) c.args.ranges.now c.args.size c.args.align c.loop-range.range-index c.loop-range.place _
    c.loop-range.invariant c.loop-range-test.true (c.if-meets.ensures.met refl) c.in_err-place-2.ensures.none in
    search rules

pub loop-range-preserved : goal.loop-range-preserved
loop-range-preserved c =
    elim c.if-meets.branch [
      | then-meets+in_ok-place-2 w ↦
          subst (IsReached c.args.goal (range_of c.args.zone) c.args.ranges.now c.args.size c.args.align (c.loop-range.range-index + 1)) (sym w.place-is)
          (reached_past c.args.goal (range_of c.args.zone) c.args.ranges.now c.args.size c.args.align c.loop-range.range-index c.loop-range.place
          w.in_ok-place-2.place _ c.loop-range.invariant c.requires.order c.loop-range-test.true (w.if-meets.ensures.met refl) w.in_ok-place-2.ensures.next)
      | else-meets w ↦
          subst (IsReached c.args.goal (range_of c.args.zone) c.args.ranges.now c.args.size c.args.align (c.loop-range.range-index + 1)) (sym w.place-is)
          (reached_on c.args.goal (range_of c.args.zone) c.args.ranges.now c.args.size c.args.align c.loop-range.range-index c.loop-range.place _
          c.loop-range.invariant c.loop-range-test.true (w.if-meets.ensures.apart refl))
    ]
