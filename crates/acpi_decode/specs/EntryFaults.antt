-- The fault of a table's entries (ACPI 6.5, 5.2.12 and 5.2.16).
use Rattle.std.specs.Prelude.{◌≡◌, ℕ, List, Option, Some, None}
use Rattle.vt_bytes.specs.View.{View}
use Rattle.vt_layout.specs.Entries.{Entry, Types}
use Rattle.vt_layout.specs.BadEntries.{FirstBad}
use Rattle.acpi_decode.specs.declared.fault.AcpiFault.TheVariants.{BadEntry}
use Rattle.acpi_decode.specs.Tests.{Faults}

-- In the table that begins at start, entries are to fill so many bytes at an address: the first bad one is told. A table whose kind has no
-- entries has no such fault.
abbrev pub EntryFault : Option Types → View → ℕ → ℕ → ℕ → Faults
EntryFault None view start address count fault = ⊥
EntryFault (Some types) view start address count fault =
    (before : List Entry) × (bad : ℕ) × FirstBad types view start address count before bad × (fault ≡ BadEntry bad)
