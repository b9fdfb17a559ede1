-- How far the walks over ranges in order have come.
use Rattle.std.proofs.Common.{◌≡◌, ℕ, ◌+◌, ◌*◌, ◌/◌, ◌<◌, ◌≤◌, inl, inr, List, map, length, take, drop, get_or, arith}
use Rattle.std.specs.List.{AllByRecursion}
use Rattle.std.proofs.lemmas.Bool.{cases_lt}
use Rattle.vt_outside.specs.Placement.{Range, Apart, IsFree}
use Rattle.zone_alloc.specs.declared.searching.AddressRange.{AddressRange}
use Rattle.zone_alloc.specs.Places.{HasNoPlace, HasNoPlaceFrom}
use Rattle.zone_alloc.specs.Ranges.{range_of, AreInOrder, Meet, IsNextPlace, IsLastPlace, HasNoMultiple}
use Rattle.zone_alloc.proofs.Multiples.{multiple_of}
use Rattle.zone_alloc.proofs.Order.{apart_up_to, apart_and_next, apart_from, apart_at_end}
use Rattle.zone_alloc.proofs.Walk.{next_least, past_next, none_past, last_greatest, before_last, none_before}

-- behind the first ranges a place is one to stay at, and no place that is free from the goal on is lower
pub record IsReached (goal : ℕ) (zone : Range) (ranges : List AddressRange) (size align passed place : ℕ) : Type 0 where
  pub aligned : (factor : ℕ) × (place ≡ factor * align)
  pub above : goal ≤ place
  pub within : place + size ≤ zone.end
  pub apart : AllByRecursion (Apart (record { start = place; end = place + size })) (map range_of (take passed ranges))
  pub least : (other : ℕ) → IsFree zone (map range_of ranges) size align other → goal ≤ other → place ≤ other

-- the next place from the goal is reached before all ranges
pub reached_first : (goal : ℕ) (zone : Range) (ranges : List AddressRange) (size align place : ℕ) → IsNextPlace goal zone.end size align place
    → IsReached goal zone ranges size align 0 place
reached_first goal zone ranges size align place next = record {
  aligned = (place / align, multiple_of place align next.multiple);
  above = next.above;
  within = next.within;
  apart = tt;
  least = λ other free above. next_least zone (map range_of ranges) size align goal other place next free above;
}

-- the next place from the end of a range that is met is reached behind it
pub reached_past : (goal : ℕ) (zone : Range) (ranges : List AddressRange) (size align i place next : ℕ) (d : AddressRange)
    → IsReached goal zone ranges size align i place → AreInOrder ranges → i < length ranges
    → Meet (record { start = place; end = place + size }) (range_of (get_or ranges i d)) → IsNextPlace (get_or ranges i d).end zone.end size align next
    → IsReached goal zone ranges size align (i + 1) next
reached_past goal zone ranges size align i place next d reached order short meet is = record {
  aligned = (next / align, multiple_of next align is.multiple);
  above = let ends = meet.ends in omega (arith, is.above, reached.above);
  within = is.within;
  apart = apart_up_to ranges i d next (next + size) order short is.above;
  least = λ other free above.
      past_next zone ranges size align place other next i d short meet is free (reached.least other free above);
}

-- a range that isn't met is passed
pub reached_on : (goal : ℕ) (zone : Range) (ranges : List AddressRange) (size align i place : ℕ) (d : AddressRange)
    → IsReached goal zone ranges size align i place → i < length ranges
    → Apart (record { start = place; end = place + size }) (range_of (get_or ranges i d)) → IsReached goal zone ranges size align (i + 1) place
reached_on goal zone ranges size align i place d reached short apart = record {
  aligned = reached.aligned;
  above = reached.above;
  within = reached.within;
  apart = apart_and_next ranges i d (record { start = place; end = place + size }) short apart reached.apart;
  least = reached.least;
}

-- where there is no such place, none is free from the goal on
pub none_reached : (goal : ℕ) (zone : Range) (ranges : List AddressRange) (size align i place : ℕ) (d : AddressRange)
    → IsReached goal zone ranges size align i place → i < length ranges → Meet (record { start = place; end = place + size }) (range_of (get_or ranges i d))
    → HasNoMultiple (get_or ranges i d).end zone.end size align → HasNoPlaceFrom goal zone (map range_of ranges) size align
none_reached goal zone ranges size align i place d reached short meet none =
    λ other free. elim (cases_lt other goal) as (λ _. other < goal) [
      | inl l ↦ l
      | inr above ↦ absurd (none_past zone ranges size align place other i d short meet none free (reached.least other free above))
    ]

-- before the last ranges a place is one to stay at, and no free place is higher
pub record IsReachedBack (zone : Range) (ranges : List AddressRange) (size align left place : ℕ) : Type 0 where
  pub aligned : (factor : ℕ) × (place ≡ factor * align)
  pub from : zone.start ≤ place
  pub within : place + size ≤ zone.end
  pub apart : AllByRecursion (Apart (record { start = place; end = place + size })) (map range_of (drop left ranges))
  pub greatest : (other : ℕ) → IsFree zone (map range_of ranges) size align other → other ≤ place

-- the last place of the zone is reached behind all ranges
pub reached_last : (zone : Range) (ranges : List AddressRange) (size align place : ℕ) → IsLastPlace zone.start zone.end size align place
    → IsReachedBack zone ranges size align (length ranges) place
reached_last zone ranges size align place last = record {
  aligned = (place / align, multiple_of place align last.multiple);
  from = last.above;
  within = last.within;
  apart = apart_at_end (record { start = place; end = place + size }) ranges;
  greatest = λ other free. last_greatest zone (map range_of ranges) size align zone.end other place last free free.within;
}

-- the last place before the start of a range that is met is reached before it
pub reached_before : (zone : Range) (ranges : List AddressRange) (size align left i place last : ℕ) (d : AddressRange)
    → IsReachedBack zone ranges size align left place → AreInOrder ranges → i < length ranges
    → Meet (record { start = place; end = place + size }) (range_of (get_or ranges i d)) → IsLastPlace zone.start (get_or ranges i d).start size align last
    → IsReachedBack zone ranges size align i last
reached_before zone ranges size align left i place last d reached order short meet is = record {
  aligned = (last / align, multiple_of last align is.multiple);
  from = is.above;
  within = let begins = meet.begins in let room = reached.within in omega (arith, is.within);
  apart = apart_from ranges i d last (last + size) order short is.within;
  greatest = λ other free.
      before_last zone ranges size align place other last i d short meet is free (reached.greatest other free);
}

-- where there is no such place, none is free
pub none_back : (zone : Range) (ranges : List AddressRange) (size align left i place : ℕ) (d : AddressRange)
    → IsReachedBack zone ranges size align left place → i < length ranges
    → Meet (record { start = place; end = place + size }) (range_of (get_or ranges i d)) → HasNoMultiple zone.start (get_or ranges i d).start size align
    → HasNoPlace zone (map range_of ranges) size align
none_back zone ranges size align left i place d reached short meet none =
    λ other free. none_before zone ranges size align place other i d short meet none free (reached.greatest other free)
