-- Addresses that lie in ranges.
use Rattle.std.specs.Prelude.{ℕ, ◌<◌, ◌≤◌, ◌⊎◌, List, [], ◌∷◌}
use Rattle.vt_outside.specs.Placement.{Range}

-- an address lies in one of these ranges
abbrev pub IsInOne : List Range → ℕ → Type 0
IsInOne [] address = ⊥
IsInOne (range ∷ ranges) address = ((range.start ≤ address) × (address < range.end)) ⊎ IsInOne ranges address
