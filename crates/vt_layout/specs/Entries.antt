-- Entries of a type and a length that stand one after the other, as in the MADT (ACPI 6.5, 5.2.12) and the SRAT (5.2.16). Each
-- begins with a byte of type and a byte of length; the length counts both, and more bytes than a reader knows.
use Rattle.std.specs.Prelude.{◌≡◌, ℕ, ◌+◌, ◌-◌, ◌≤◌, List, [], ◌∷◌, ◌++◌, map, Option, Some, None}
use Rattle.vt_bytes.specs.View.{View}
use Rattle.vt_layout.specs.declared.row.Row.{Row}
use Rattle.vt_layout.specs.declared.row.Row.TheVariants.{Number, Reserved}
use Rattle.vt_layout.specs.Rows.{size, shape, linked}
use Rattle.vt_layout.specs.Shown.{Shown}

-- An entry of a known type is its type and the rows behind its length. One of any other type is its type and its length.
pub data Entry : Type 0 where
  Known : ℕ → List Row → Entry
  Other : ℕ → ℕ → Entry

-- what a table's entries are: for each known type, the shape of the rows behind its length
abbrev pub Types : Type 0
Types = ℕ → Option (List Row)

-- the two rows that each entry begins with
abbrev pub entry_head : ℕ → ℕ → List Row
entry_head kind length = Number 1 kind ∷ Number 1 length ∷ []

abbrev pub kind_of : Entry → ℕ
kind_of (Known kind rows) = kind
kind_of (Other kind length) = kind

-- the rows behind them that a reader takes
abbrev pub rows_of : Entry → List Row
rows_of (Known kind rows) = rows
rows_of (Other kind length) = []

-- An entry as it is written: with its exact length. Of another type's entry only the length is known, and zeros fill it.
abbrev pub entry_rows : Entry → List Row
entry_rows (Known kind rows) = entry_head kind (2 + size rows) ++ rows
entry_rows (Other kind length) = entry_head kind length ++ Reserved (length - 2) ∷ []

-- one after the other
abbrev pub entries_rows : List Entry → List Row
entries_rows [] = []
entries_rows (entry ∷ entries) = entry_rows entry ++ entries_rows entries

-- an entry with its pointers' targets' places added, where each file stands at its place
abbrev pub linked_entry : (List ℕ → ℕ) → Entry → Entry
linked_entry place_of (Known kind rows) = Known kind (linked place_of rows)
linked_entry place_of (Other kind length) = Other kind length

abbrev pub linked_entries : (List ℕ → ℕ) → List Entry → List Entry
linked_entries place_of entries = map (linked_entry place_of) entries

-- the entry has the rows of its type, or is of no known type and has room for its type and length
abbrev pub IsOfType : Types → Entry → Type 0
IsOfType types (Known kind rows) = types kind ≡ Some (shape rows)
IsOfType types (Other kind length) = (types kind ≡ None) × (2 ≤ length)

-- it may stand with this length: its rows end within it, and what follows them is ignored; or it is kept as this length
abbrev pub HasLength : ℕ → Entry → Type 0
HasLength length (Known kind rows) = 2 + size rows ≤ length
HasLength length (Other kind total) = total ≡ length

-- the entry stands with this length at an address of the layout that begins at start
pub record IsEntry (types : Types) (view : View) (start address length : ℕ) (entry : Entry) : Type 0 where
  pub typed : IsOfType types entry
  pub long_enough : HasLength length entry
  pub shown : Shown view start address (entry_head (kind_of entry) length ++ rows_of entry)

-- The entries stand one after the other: each begins where the length of the one before ends, and they fill so many bytes.
abbrev pub EntriesShown : Types → View → ℕ → ℕ → ℕ → List Entry → Type 0
EntriesShown types view start address count [] = count ≡ 0
EntriesShown types view start address count (entry ∷ entries) =
    (length : ℕ) × IsEntry types view start address length entry × (length ≤ count)
    × EntriesShown types view start (address + length) (count - length) entries
