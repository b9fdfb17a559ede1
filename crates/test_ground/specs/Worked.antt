-- Worked rows: bytes made by hand, and what a reader takes from them.
use Rattle.std.specs.Prelude.{ℕ, List, [], ◌∷◌, Some, None, cond, ◌==◌}
use Rattle.vt_layout.specs.declared.row.Row.{Row}
use Rattle.vt_layout.specs.declared.row.Row.TheVariants.{Number, Bytes}
use Rattle.vt_layout.specs.Rows.{shape}
use Rattle.vt_layout.specs.Entries.{Entry, Known, Other, Types}

-- A processor's local APIC (ACPI 6.5, 5.2.12.2): its UID, its id, and its flags.
abbrev pub local_apic : ℕ → ℕ → ℕ → List Row
local_apic uid apic flags = Number 1 uid ∷ Number 1 apic ∷ Number 4 flags ∷ []

-- the only type that is known
abbrev pub types : Types
types kind = cond (kind == 0) (Some (shape (local_apic 0 0 0))) None

-- A processor of 8 bytes; one whose entry is one byte longer than its rows; and an entry of 3 bytes of another type.
abbrev pub entries_bytes : List ℕ
entries_bytes = 0 ∷ 8 ∷ 1 ∷ 2 ∷ 1 ∷ 0 ∷ 0 ∷ 0 ∷ 0 ∷ 9 ∷ 2 ∷ 3 ∷ 0 ∷ 0 ∷ 0 ∷ 0 ∷ 0xEE ∷ 0x7F ∷ 3 ∷ 0xEE ∷ []

abbrev pub entries : List Entry
entries = Known 0 (local_apic 1 2 1) ∷ Known 0 (local_apic 2 3 0) ∷ Other 0x7F 3 ∷ []

-- a processor whose entry is one byte shorter than its rows
abbrev pub short_entry : List ℕ
short_entry = 0 ∷ 7 ∷ 1 ∷ 2 ∷ 1 ∷ 0 ∷ 0 ∷ 0 ∷ []

-- A number of two bytes, one of four that only begins within the three bytes of the layout, and two bytes past them.
abbrev pub short_bytes : List ℕ
short_bytes = 0x34 ∷ 0x12 ∷ 0x78 ∷ 0x56 ∷ 0x34 ∷ 0x12 ∷ 0x41 ∷ 0x42 ∷ []

abbrev pub short_rows : ℕ → ℕ → List ℕ → List Row
short_rows first second text = Number 2 first ∷ Number 4 second ∷ Bytes 2 text ∷ []
