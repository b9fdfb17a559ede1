-- The places that policies choose, from what the searches find.
use Rattle.std.proofs.Common.{ℕ, inr, List, Option, Some, None, MatchOption, arith}
use Rattle.vt_outside.specs.Placement.{Range}
use Rattle.zone_alloc.specs.Places.{IsLeastPlace, IsLeastPlaceFrom, HasNoPlace, HasNoPlaceFrom}
use Rattle.zone_alloc.specs.Policies.{IsFirstFrom}

-- the least place from the zone's start on is the least one
pub least_in_zone : (zone : Range) (handed : List Range) (size align : ℕ) (place : Option ℕ) → IsLeastPlaceFrom zone.start zone handed size align place
    → IsLeastPlace zone handed size align place
least_in_zone zone handed size align None none = λ other free. let below = none other free in let from = free.from in omega arith
least_in_zone zone handed size align (Some place) least = record {
  free = least.free;
  least = λ other free. least.least other free free.from;
}

-- where none is free from a goal on, the least place from the zone's start on is the first one
pub first_in_zone : (goal : ℕ) (zone : Range) (handed : List Range) (size align : ℕ) (place : Option ℕ) → HasNoPlaceFrom goal zone handed size align
    → IsLeastPlaceFrom zone.start zone handed size align place
    → MatchOption place (HasNoPlace zone handed size align) (IsFirstFrom goal zone handed size align)
first_in_zone goal zone handed size align None none low = least_in_zone zone handed size align None low
first_in_zone goal zone handed size align (Some place) none low = inr (none, least_in_zone zone handed size align (Some place) low)
