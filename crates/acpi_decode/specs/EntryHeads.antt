-- The type and the length with which an entry begins (ACPI 6.5, 5.2.12 and 5.2.16).
use Rattle.std.specs.Prelude.{◌≡◌, ℕ, ◌+◌, ◌≤◌, Some}
use Rattle.vt_bytes.specs.View.{View, number_in}
use Rattle.vt_layout.specs.Entries.{Types}
use Rattle.vt_layout.specs.BadEntries.{least_length}

-- an entry of this type and this length begins at the address
abbrev pub IsHead : View → ℕ → ℕ → ℕ → Type 0
IsHead view at kind total = (number_in view at 1 ≡ Some kind) × (number_in view (at + 1) 1 ≡ Some total)

-- an entry of this length begins at the address that is long enough for its type, and so many bytes that are left hold it
abbrev pub IsGoodLength : Types → View → ℕ → ℕ → ℕ → Type 0
IsGoodLength types view at left total = (kind : ℕ) × IsHead view at kind total × (least_length (types kind) ≤ total) × (total ≤ left)
