-- What is free among ranges is free among others that keep apart alike.
use Rattle.std.proofs.Common.{ℕ, ◌+◌, List, Option, Some, None}
use Rattle.vt_outside.specs.Placement.{Range, IsFree}
use Rattle.zone_alloc.specs.Places.{IsLeastPlaceFrom, IsGreatestPlace}
use Rattle.zone_alloc.specs.Ranges.{KeepApartAlike}

to_others : (zone : Range) (some others : List Range) (size align place : ℕ) → KeepApartAlike some others → IsFree zone some size align place
    → IsFree zone others size align place
to_others zone some others size align place alike free = record {
  aligned = free.aligned;
  from = free.from;
  within = free.within;
  apart = (alike (record { start = place; end = place + size })).0 free.apart;
}

from_others : (zone : Range) (some others : List Range) (size align place : ℕ) → KeepApartAlike some others → IsFree zone others size align place
    → IsFree zone some size align place
from_others zone some others size align place alike free = record {
  aligned = free.aligned;
  from = free.from;
  within = free.within;
  apart = (alike (record { start = place; end = place + size })).1 free.apart;
}

pub least_alike : (goal : ℕ) (zone : Range) (some others : List Range) (size align : ℕ) (place : Option ℕ) → KeepApartAlike some others
    → IsLeastPlaceFrom goal zone others size align place → IsLeastPlaceFrom goal zone some size align place
least_alike goal zone some others size align None alike none = λ other free. none other (to_others zone some others size align other alike free)
least_alike goal zone some others size align (Some place) alike least = record {
  free = from_others zone some others size align place alike least.free;
  above = least.above;
  least = λ other free. least.least other (to_others zone some others size align other alike free);
}

pub greatest_alike : (zone : Range) (some others : List Range) (size align : ℕ) (place : Option ℕ) → KeepApartAlike some others
    → IsGreatestPlace zone others size align place → IsGreatestPlace zone some size align place
greatest_alike zone some others size align None alike none = λ other free. none other (to_others zone some others size align other alike free)
greatest_alike zone some others size align (Some place) alike greatest = record {
  free = from_others zone some others size align place alike greatest.free;
  greatest = λ other free. greatest.greatest other (to_others zone some others size align other alike free);
}
