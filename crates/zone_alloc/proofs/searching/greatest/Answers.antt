use Rattle.std.proofs.Common.{rules, ◌-◌, map, refl, arith}
use Rattle.zone_alloc.specs.Places.{HasNoPlace}
use Rattle.zone_alloc.specs.Ranges.{range_of}
use Rattle.zone_alloc.proofs.Reached.{reached_last, reached_before, none_back}
use Rattle.zone_alloc.proofs.searching.greatest.Goals as goal

pub loop-index-init : goal.loop-index-init
loop-index-init c =
    reached_last (range_of c.args.zone) c.args.ranges.now c.args.size c.args.align c.in_ok-place.place c.in_ok-place.ensures.last

pub returns-in_err-place-2-clause-greatest : goal.returns-in_err-place-2-clause-greatest
returns-in_err-place-2-clause-greatest c =
    let none : HasNoPlace (range_of c.args.zone) (map range_of c.args.ranges.now) c.args.size c.args.align =
    none_back (range_of c.args.zone) c.args.ranges.now c.args.size c.args.align c.loop-index.index (c.loop-index.index - 1) c.loop-index.place _
    c.loop-index.invariant (omega arith) (c.if-meets.ensures.met refl) c.in_err-place-2.ensures.none in
    search rules

pub loop-index-preserved-then-meets : goal.loop-index-preserved-then-meets
loop-index-preserved-then-meets c =
    reached_before (range_of c.args.zone) c.args.ranges.now c.args.size c.args.align c.loop-index.index (c.loop-index.index - 1) c.loop-index.place
    c.in_ok-place-2.place _ c.loop-index.invariant c.requires.order (omega arith) (c.if-meets.ensures.met refl) c.in_ok-place-2.ensures.last
