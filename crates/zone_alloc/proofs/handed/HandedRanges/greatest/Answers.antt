use Rattle.std.proofs.Common.{List, map, subst}
use Rattle.vt_outside.specs.Placement.{Range}
use Rattle.zone_alloc.specs.declared.searching.AddressRange.{AddressRange}
use Rattle.zone_alloc.specs.Places.{IsGreatestPlace}
use Rattle.zone_alloc.specs.Ranges.{range_of}
use Rattle.zone_alloc.proofs.Alike.{greatest_alike}
use Rattle.zone_alloc.proofs.handed.HandedRanges.greatest.Goals as goal

pub returns-clause-greatest : goal.returns-clause-greatest
returns-clause-greatest c =
    let found : IsGreatestPlace (range_of c.args.zone) (map range_of c.self.inside.by_address.items) c.args.size c.args.align c.greatest.result =
    subst
    (λ (ranges : List AddressRange). IsGreatestPlace (range_of c.args.zone) (map range_of ranges) c.args.size c.args.align c.greatest.result)
    c.as_slice.ensures.value c.greatest.ensures.greatest in
    subst (λ (handed : List Range). IsGreatestPlace (range_of c.args.zone) handed c.args.size c.args.align c.greatest.result) c.self.view_is
    (greatest_alike (range_of c.args.zone) (map range_of c.self.inside.in_turn.items) (map range_of c.self.inside.by_address.items) c.args.size
    c.args.align c.greatest.result c.self.invariant.0.alike found)
