use Rattle.std.proofs.Common.{◌≡◌, ◌≤◌, List, [], ◌∷◌, ◌++◌, map, arith, subst, sym}
use Rattle.std.specs.List.{AllByRecursion, insert}
use Rattle.std.specs.Vec.{vec_capacity}
use Rattle.vt_outside.specs.Placement.{Apart}
use Rattle.zone_alloc.specs.declared.searching.AddressRange.{AddressRange}
use Rattle.zone_alloc.specs.Ranges.{range_of, AreKept, IsPlaceInOrder}
use Rattle.zone_alloc.proofs.Kept.{kept_with}
use Rattle.zone_alloc.proofs.handed.HandedRanges.push.Goals as goal

pub invariant_of-self : goal.invariant_of-self
invariant_of-self c =
    let place : IsPlaceInOrder c.args.range.start c.self.inside.by_address.items c.first_behind-index.result =
    subst (λ (ranges : List AddressRange). IsPlaceInOrder c.args.range.start ranges c.first_behind-index.result) c.as_slice.ensures.value
    c.first_behind-index.ensures in
    let apart : AllByRecursion (Apart (range_of c.args.range)) (map range_of c.self.inside.in_turn.items) =
    subst (AllByRecursion (Apart (range_of c.args.range))) (sym c.self.view_is) c.requires.apart in
    let kept : AreKept (c.self.inside.in_turn.items ++ c.args.range ∷ []) (insert c.self.inside.by_address.items c.first_behind-index.result c.args.range) =
    kept_with c.args.range c.self.inside.in_turn.items c.self.inside.by_address.items c.first_behind-index.result c.self.invariant.0 c.requires.some apart
    place in (
      subst (λ (in_turn : List AddressRange). AreKept in_turn c.insert.new.self.items) (sym c.push_reserved.ensures.items)
          (subst (AreKept (c.self.inside.in_turn.items ++ c.args.range ∷ [])) (sym c.in-Ok.ensures.items) kept),
      (let same : vec_capacity c.push_reserved.new.self ≡ vec_capacity c.self.inside.in_turn = c.push_reserved.ensures.capacity in
          let room = c.self.invariant.1 in omega arith),
      (let more : vec_capacity c.self.inside.by_address ≤ vec_capacity c.insert.new.self = c.insert.ensures.capacity in
          let room = c.self.invariant.2 in omega arith),
    )
