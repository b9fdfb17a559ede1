-- Ranges that are handed out, and the walks over them.
use Rattle.std.specs.Prelude.{◌≡◌, ⊤, ℕ, ◌+◌, ◌*◌, ◌%◌, ◌<◌, ◌≤◌, ◌↔◌, List, [], ◌∷◌, map, length, take, drop}
use Rattle.std.specs.List.{AllByRecursion}
use Rattle.vt_outside.specs.Placement.{Range, Apart}
use Rattle.zone_alloc.specs.declared.searching.AddressRange.{AddressRange}

-- the range that a program holds in two numbers
abbrev pub range_of : AddressRange → Range
range_of r = record { start = r.start; end = r.end }

-- two ranges have an address in common, where each has one
pub record Meet (a b : Range) : Type 0 where
  pub begins : b.start < a.end
  pub ends : a.start < b.end

-- each range has an address, and ends before those behind it begin
abbrev pub AreInOrder : List AddressRange → Type 0
AreInOrder [] = ⊤
AreInOrder (r ∷ ranges) = (r.start < r.end) × AllByRecursion (λ (q : Range). r.end ≤ q.start) (map range_of ranges) × AreInOrder ranges

-- a range is apart from those of one list exactly where it is apart from those of the other
abbrev pub KeepApartAlike : List Range → List Range → Type 0
KeepApartAlike some others = (range : Range) → AllByRecursion (Apart range) some ↔ AllByRecursion (Apart range) others

-- ranges in the order in which they were handed out, and the same ranges in the order of their addresses
pub record AreKept (in_turn by_address : List AddressRange) : Type 0 where
  pub ordered : AreInOrder by_address
  pub alike : KeepApartAlike (map range_of in_turn) (map range_of by_address)
  pub as_many : length in_turn ≡ length by_address

-- the least multiple of an align at or above a number, from which so many bytes end at or below an end
pub record IsNextPlace (from end size align place : ℕ) : Type 0 where
  pub multiple : place % align ≡ 0
  pub above : from ≤ place
  pub near : place < from + align
  pub within : place + size ≤ end

-- the greatest multiple of an align at or above a number, from which so many bytes end at or below an end
pub record IsLastPlace (from end size align place : ℕ) : Type 0 where
  pub multiple : place % align ≡ 0
  pub above : from ≤ place
  pub near : end < place + size + align
  pub within : place + size ≤ end

-- there is no such multiple
abbrev pub HasNoMultiple : ℕ → ℕ → ℕ → ℕ → Type 0
HasNoMultiple from end size align = (factor : ℕ) → from ≤ factor * align → ¬ (factor * align + size ≤ end)

-- the first range, if there is one, begins at or above a start
abbrev pub BeginsFrom : ℕ → List AddressRange → Type 0
BeginsFrom start [] = ⊤
BeginsFrom start (r ∷ ranges) = start ≤ r.start

-- so many ranges begin below a start, and the one behind them doesn't
abbrev pub IsPlaceInOrder : ℕ → List AddressRange → ℕ → Type 0
IsPlaceInOrder start ranges index =
    (index ≤ length ranges) × AllByRecursion (λ (r : AddressRange). r.start < start) (take index ranges) × BeginsFrom start (drop index ranges)
