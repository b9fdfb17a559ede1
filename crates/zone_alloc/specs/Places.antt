-- The addresses of the zones of a memory, and which free place of one is the least, the greatest, or the least from a goal on.
use Rattle.std.specs.Prelude.{ℕ, ◌<◌, ◌≤◌, List, Option, MatchOption}
use Rattle.vt_outside.specs.Placement.{Range, IsFree}
use Rattle.zone_alloc.specs.declared.zone.Zone.{Zone}
use Rattle.zone_alloc.specs.declared.zone.Zone.TheVariants.{High, Fseg}
use Rattle.zone_alloc.specs.declared.zones.Zones.{Zones}

-- the addresses that zones give
abbrev pub range_in : Zones → Zone → Range
range_in zones High = record { start = zones.high_start; end = zones.high_end }
range_in zones Fseg = record { start = zones.fseg_start; end = zones.fseg_end }

-- each zone has an address
abbrev pub HaveAddresses : Zones → Type 0
HaveAddresses zones = (zones.high_start < zones.high_end) × (zones.fseg_start < zones.fseg_end)

-- the least place that is free
pub record IsLeastFree (zone : Range) (handed : List Range) (size align place : ℕ) : Type 0 where
  pub free : IsFree zone handed size align place
  pub least : (other : ℕ) → IsFree zone handed size align other → place ≤ other

-- the greatest place that is free
pub record IsGreatestFree (zone : Range) (handed : List Range) (size align place : ℕ) : Type 0 where
  pub free : IsFree zone handed size align place
  pub greatest : (other : ℕ) → IsFree zone handed size align other → other ≤ place

-- the least place that is free at or above a goal
pub record IsLeastFrom (goal : ℕ) (zone : Range) (handed : List Range) (size align place : ℕ) : Type 0 where
  pub free : IsFree zone handed size align place
  pub above : goal ≤ place
  pub least : (other : ℕ) → IsFree zone handed size align other → goal ≤ other → place ≤ other

-- no place is free
abbrev pub HasNoPlace : Range → List Range → ℕ → ℕ → Type 0
HasNoPlace zone handed size align = (place : ℕ) → ¬ IsFree zone handed size align place

-- no place is free at or above a goal
abbrev pub HasNoPlaceFrom : ℕ → Range → List Range → ℕ → ℕ → Type 0
HasNoPlaceFrom goal zone handed size align = (place : ℕ) → IsFree zone handed size align place → place < goal

-- the least place that is free, or none where none is free
abbrev pub IsLeastPlace : Range → List Range → ℕ → ℕ → Option ℕ → Type 0
IsLeastPlace zone handed size align place = MatchOption place (HasNoPlace zone handed size align) (IsLeastFree zone handed size align)

-- the greatest place that is free, or none where none is free
abbrev pub IsGreatestPlace : Range → List Range → ℕ → ℕ → Option ℕ → Type 0
IsGreatestPlace zone handed size align place =
    MatchOption place (HasNoPlace zone handed size align) (IsGreatestFree zone handed size align)

-- the least place that is free at or above a goal, or none where none is free there
abbrev pub IsLeastPlaceFrom : ℕ → Range → List Range → ℕ → ℕ → Option ℕ → Type 0
IsLeastPlaceFrom goal zone handed size align place =
    MatchOption place (HasNoPlaceFrom goal zone handed size align) (IsLeastFrom goal zone handed size align)
