-- What the run of a script leaves in memory.
use Rattle.std.specs.Prelude.{◌≡◌, ℕ, ◌+◌, ◌<◌, ◌≤◌, ◌⊎◌, List, [], ◌∷◌, length}
use Rattle.vt_outside.specs.Placement.{Range}
use Rattle.vt_bytes.specs.Memory.{Memory, bytes_at}
use Rattle.loader_script.specs.Run.{Placed}

-- the range of a placed file
abbrev pub range_of : Placed → Range
range_of p = record { start = p.place; end = p.place + length p.bytes }

-- the address is in none of the files
abbrev pub IsOutside : List Placed → ℕ → Type 0
IsOutside [] address = Unit {0}
IsOutside (p ∷ placed) address = ((address < p.place) ⊎ (p.place + length p.bytes ≤ address)) × IsOutside placed address

-- each placed file stands in memory
abbrev pub Holds : Memory → List Placed → Type 0
Holds m [] = Unit {0}
Holds m (p ∷ placed) = (bytes_at m p.place (length p.bytes) ≡ p.bytes) × Holds m placed
