use Rattle.std.proofs.Common.{List, map, subst}
use Rattle.vt_outside.specs.Placement.{Range}
use Rattle.zone_alloc.specs.declared.searching.AddressRange.{AddressRange}
use Rattle.zone_alloc.specs.Places.{IsLeastPlaceFrom}
use Rattle.zone_alloc.specs.Ranges.{range_of}
use Rattle.zone_alloc.proofs.Alike.{least_alike}
use Rattle.zone_alloc.proofs.handed.HandedRanges.least_from.Goals as goal

pub returns-clause-least : goal.returns-clause-least
returns-clause-least c =
    let found : IsLeastPlaceFrom c.args.goal (range_of c.args.zone) (map range_of c.self.inside.by_address.items) c.args.size c.args.align c.least_from.result =
    subst
    (λ (ranges : List AddressRange).
    IsLeastPlaceFrom c.args.goal (range_of c.args.zone) (map range_of ranges) c.args.size c.args.align c.least_from.result)
    c.as_slice.ensures.value c.least_from.ensures.least in
    subst (λ (handed : List Range). IsLeastPlaceFrom c.args.goal (range_of c.args.zone) handed c.args.size c.args.align c.least_from.result)
    c.self.view_is
    (least_alike c.args.goal (range_of c.args.zone) (map range_of c.self.inside.in_turn.items) (map range_of c.self.inside.by_address.items) c.args.size
    c.args.align c.least_from.result c.self.invariant.0.alike found)
