-- Where the strings of a structure end (DMTF DSP0134, version 3.0.0, 6.1.3).
use Rattle.std.specs.Prelude.{◌≡◌, ℕ, ◌+◌, ◌<◌, List, slice_get, Some}

-- two NULs in a row stand at a place of bytes
abbrev pub HasEnd : List ℕ → ℕ → Type 0
HasEnd bytes place = (slice_get bytes place ≡ Some 0) × (slice_get bytes (place + 1) ≡ Some 0)

-- and at none before it
abbrev pub IsFirstEnd : List ℕ → ℕ → Type 0
IsFirstEnd bytes place = HasEnd bytes place × ((earlier : ℕ) → earlier < place → HasEnd bytes earlier → ⊥)
