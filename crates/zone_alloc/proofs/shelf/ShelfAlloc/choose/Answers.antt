use Rattle.std.proofs.Common.{◌≡◌, ℕ, List, [], subst, sym, ap, ap₂}
use Rattle.std.specs.Option.{option_map_or}
use Rattle.vt_outside.specs.Placement.{Range}
use Rattle.zone_alloc.specs.Places.{range_in}
use Rattle.zone_alloc.specs.Policies.{IsShelfPlace}
use Rattle.zone_alloc.specs.Words.{policy_of}
use Rattle.zone_alloc.specs.Allocators.{AllocState, shelf_gives}
use Rattle.zone_alloc.proofs.shelf.ShelfAlloc.choose.Goals as goal

pub returns-clause-gives : goal.returns-clause-gives
returns-clause-gives c =
    let inside : record { start = c.start_of.result; end = c.end_of.result } ≡ range_in c.self.inside.zones c.args.asked.zone =
    ap₂ (λ (start end : ℕ). record { start = start; end = end }) c.start_of.ensures c.end_of.ensures in
    let handed : c.in-Some.handed ≡ option_map_or (λ handed. handed) c.self.inside.handed [] =
    ap (λ ranges. option_map_or (λ handed. handed) ranges []) (sym c.in-Some.is) in
    subst (λ (s : AllocState). shelf_gives s c.args.asked c.choose.result) c.self.view_is
    (subst
    (λ (ranges : List Range).
    IsShelfPlace (policy_of c.self.inside.chooser) (range_in c.self.inside.zones c.args.asked.zone) ranges c.args.asked.size c.args.asked.align
    c.choose.result)
    handed
    (subst
    (λ (zone : Range).
    IsShelfPlace (policy_of c.self.inside.chooser) zone c.in-Some.handed c.args.asked.size c.args.asked.align c.choose.result)
    inside
    (subst
    (λ (size : ℕ). IsShelfPlace (policy_of c.self.inside.chooser) (record { start = c.start_of.result; end = c.end_of.result }) c.in-Some.handed size
    c.args.asked.align c.choose.result)
    c.from.ensures
    (subst
    (λ (align : ℕ). IsShelfPlace (policy_of c.self.inside.chooser) (record { start = c.start_of.result; end = c.end_of.result }) c.in-Some.handed
    c.from.result align c.choose.result)
    c.from-2.ensures c.choose.ensures.chosen))))
