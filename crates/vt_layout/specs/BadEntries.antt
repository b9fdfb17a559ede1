-- The first bad entry of so many bytes of entries (ACPI 6.5, 5.2.12 and 5.2.16).
use Rattle.std.specs.Prelude.{◌≡◌, ℕ, ◌+◌, ◌-◌, ◌<◌, ◌≤◌, ◌⊎◌, List, [], ◌∷◌, Option, Some, None}
use Rattle.std.specs.List.{AllByRecursion}
use Rattle.vt_bytes.specs.View.{View, number_in}
use Rattle.vt_layout.specs.declared.row.Row.{Row}
use Rattle.vt_layout.specs.Rows.{size, shape}
use Rattle.vt_layout.specs.Reading.{IsReadable, rows_in}
use Rattle.vt_layout.specs.Entries.{Entry, Known, Other, Types, IsEntry}

-- how many bytes an entry of a type has at least: its type and its length, and the rows of a known type
abbrev pub least_length : Option (List Row) → ℕ
least_length None = 2
least_length (Some rows) = 2 + size rows

-- The entry at an address is bad, where so many bytes are left: they don't hold its type and its length, or its length is below the
-- least of its type, or it runs past them.
abbrev pub IsBadEntry : Types → View → ℕ → ℕ → Type 0
IsBadEntry types view address count =
    (count < 2)
    ⊎ ((kind : ℕ) × (length : ℕ) × (number_in view address 1 ≡ Some kind) × (number_in view (address + 1) 1 ≡ Some length)
    × ((length < least_length (types kind)) ⊎ (count < length)))

-- Entries stand one after the other, as in EntriesShown, and bytes are left behind them, where a bad one stands: its address is the last
-- argument.
abbrev pub FirstBad : Types → View → ℕ → ℕ → ℕ → List Entry → ℕ → Type 0
FirstBad types view start address count [] bad = (bad ≡ address) × (0 < count) × IsBadEntry types view address count
FirstBad types view start address count (entry ∷ before) bad =
    (length : ℕ) × IsEntry types view start address length entry × (length ≤ count)
    × FirstBad types view start (address + length) (count - length) before bad

-- any bytes can be the rows of each known type, whose shape holds no values
abbrev pub AreReadable : Types → Type 0
AreReadable types = (kind : ℕ) (rows : List Row) → types kind ≡ Some rows → (shape rows ≡ rows) × AllByRecursion IsReadable rows

-- The entry of a type that has so many bytes, with these behind its type and its length. They are read as the rows of a known type.
abbrev pub entry_in : Option (List Row) → ℕ → ℕ → List ℕ → Entry
entry_in None kind length body = Other kind length
entry_in (Some rows) kind length body = Known kind (rows_in rows body)
