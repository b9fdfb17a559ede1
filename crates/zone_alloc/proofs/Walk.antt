-- The walks to the least and to the greatest free place.
use Rattle.std.proofs.Common.{ℕ, ◌+◌, ◌<◌, ◌≤◌, inl, inr, List, map, length, get_or, arith}
use Rattle.vt_outside.specs.Placement.{Range, Apart, IsFree}
use Rattle.zone_alloc.specs.declared.searching.AddressRange.{AddressRange}
use Rattle.zone_alloc.specs.Ranges.{range_of, Meet, IsNextPlace, IsLastPlace, HasNoMultiple}
use Rattle.std.proofs.lemmas.Bool.{cases_lt}
use Rattle.zone_alloc.proofs.Multiples.{next_is_least, last_is_greatest}
use Rattle.zone_alloc.proofs.Order.{each_at}

-- a range that meets the one at a place rules out each free place from there to its end
past_end : (zone : Range) (handed : List AddressRange) (size align place other i : ℕ) (d : AddressRange) → i < length handed
    → Meet (record { start = place; end = place + size }) (range_of (get_or handed i d)) → IsFree zone (map range_of handed) size align other
    → place ≤ other → (get_or handed i d).end ≤ other
past_end zone handed size align place other i d short meet free above =
    elim (each_at (Apart (record { start = other; end = other + size })) handed i d free.apart short) as (λ _. (get_or handed i d).end ≤ other) [
      | inl l ↦ absurd (omega (arith, meet.begins, meet.ends))
      | inr l ↦ omega arith
    ]

-- and each from its start up to there
before_start : (zone : Range) (handed : List AddressRange) (size align place other i : ℕ) (d : AddressRange) → i < length handed
    → Meet (record { start = place; end = place + size }) (range_of (get_or handed i d)) → IsFree zone (map range_of handed) size align other
    → other ≤ place → other + size ≤ (get_or handed i d).start
before_start zone handed size align place other i d short meet free under =
    elim (each_at (Apart (record { start = other; end = other + size })) handed i d free.apart short)
    as (λ _. other + size ≤ (get_or handed i d).start) [
      | inl l ↦ omega arith
      | inr l ↦ absurd (omega (arith, meet.begins, meet.ends))
    ]

-- no free place is below the next place from a number, at or above which all of them are
pub next_least : (zone : Range) (handed : List Range) (size align from other next : ℕ) → IsNextPlace from zone.end size align next
    → IsFree zone handed size align other → from ≤ other → next ≤ other
next_least zone handed size align from other next is free above =
    omega (arith, next_is_least from align next free.aligned.0 is.multiple is.near (omega (arith, free.aligned.1)), free.aligned.1)

-- and where there is no next place, none is free
pub none_next : (zone : Range) (handed : List Range) (size align from other : ℕ) → HasNoMultiple from zone.end size align
    → IsFree zone handed size align other → other < from
none_next zone handed size align from other none free =
    elim (cases_lt other from) as (λ _. other < from) [
      | inl l ↦ l
      | inr above ↦
          absurd (none free.aligned.0 (omega (arith, free.aligned.1)) (let within = free.within in omega (arith, free.aligned.1)))
    ]

-- no free place is above the last place before an end, at or below which all of them leave room
pub last_greatest : (zone : Range) (handed : List Range) (size align end other last : ℕ) → IsLastPlace zone.start end size align last
    → IsFree zone handed size align other → other + size ≤ end → other ≤ last
last_greatest zone handed size align end other last is free room =
    omega (arith, last_is_greatest end size align last free.aligned.0 is.multiple is.near (omega (arith, free.aligned.1)), free.aligned.1)

-- and where there is no last place, none is free
pub none_last : (zone : Range) (handed : List Range) (size align end other : ℕ) → HasNoMultiple zone.start end size align
    → IsFree zone handed size align other → other + size ≤ end → ⊥
none_last zone handed size align end other none free room =
    none free.aligned.0 (let from = free.from in omega (arith, free.aligned.1)) (omega (arith, free.aligned.1))

-- the same behind a range that is met
pub past_next : (zone : Range) (handed : List AddressRange) (size align place other next i : ℕ) (d : AddressRange) → i < length handed
    → Meet (record { start = place; end = place + size }) (range_of (get_or handed i d))
    → IsNextPlace (get_or handed i d).end zone.end size align next → IsFree zone (map range_of handed) size align other → place ≤ other → next ≤ other
past_next zone handed size align place other next i d short meet is free above =
    next_least zone (map range_of handed) size align (get_or handed i d).end other next is free
    (past_end zone handed size align place other i d short meet free above)

pub none_past : (zone : Range) (handed : List AddressRange) (size align place other i : ℕ) (d : AddressRange) → i < length handed
    → Meet (record { start = place; end = place + size }) (range_of (get_or handed i d))
    → HasNoMultiple (get_or handed i d).end zone.end size align → IsFree zone (map range_of handed) size align other → place ≤ other → ⊥
none_past zone handed size align place other i d short meet none free above =
    let past : (get_or handed i d).end ≤ other = past_end zone handed size align place other i d short meet free above in
    let under : other < (get_or handed i d).end = none_next zone (map range_of handed) size align (get_or handed i d).end other none free in
    omega arith

-- and before one
pub before_last : (zone : Range) (handed : List AddressRange) (size align place other last i : ℕ) (d : AddressRange) → i < length handed
    → Meet (record { start = place; end = place + size }) (range_of (get_or handed i d))
    → IsLastPlace zone.start (get_or handed i d).start size align last → IsFree zone (map range_of handed) size align other → other ≤ place
    → other ≤ last
before_last zone handed size align place other last i d short meet is free under =
    last_greatest zone (map range_of handed) size align (get_or handed i d).start other last is free
    (before_start zone handed size align place other i d short meet free under)

pub none_before : (zone : Range) (handed : List AddressRange) (size align place other i : ℕ) (d : AddressRange) → i < length handed
    → Meet (record { start = place; end = place + size }) (range_of (get_or handed i d))
    → HasNoMultiple zone.start (get_or handed i d).start size align → IsFree zone (map range_of handed) size align other → other ≤ place → ⊥
none_before zone handed size align place other i d short meet none free under =
    none_last zone (map range_of handed) size align (get_or handed i d).start other none free
    (before_start zone handed size align place other i d short meet free under)
