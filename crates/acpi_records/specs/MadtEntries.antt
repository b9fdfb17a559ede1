-- The entries of the MADT (ACPI 6.5, 5.2.12), as records of the rows behind their types and lengths.
use Rattle.std.specs.Prelude.{◌≡◌, ℕ, ◌+◌, ◌^◌, ◌<◌, ◌≤◌, List, [], ◌∷◌, Some, None, ◌==◌, if◌then◌else◌}
use Rattle.vt_layout.specs.declared.value.Value.{Value}
use Rattle.vt_layout.specs.Rows.{size, shape}
use Rattle.vt_layout.specs.Entries.{Entry, Types, Known, Other as OtherEntry}
use Rattle.vt_layout.specs.Values.{value_at, byte_of, word_of, dword_of, values_of}
use Rattle.vt_layout.specs.Fields.{Field, byte, word, dword, reserved, field_rows}
use Rattle.acpi_records.specs.declared.madt_entry.LocalApicEntry.{LocalApicEntry}
use Rattle.acpi_records.specs.declared.madt_entry.IoApicEntry.{IoApicEntry}
use Rattle.acpi_records.specs.declared.madt_entry.OverrideEntry.{OverrideEntry}
use Rattle.acpi_records.specs.declared.madt_entry.LocalNmiEntry.{LocalNmiEntry}
use Rattle.acpi_records.specs.declared.madt_entry.X2ApicEntry.{X2ApicEntry}
use Rattle.acpi_records.specs.declared.madt_entry.X2ApicNmiEntry.{X2ApicNmiEntry}
use Rattle.acpi_records.specs.declared.madt_entry.MadtEntry.{MadtEntry}
use Rattle.acpi_records.specs.declared.madt_entry.MadtEntry.TheVariants.{LocalApic, IoApic, Override, LocalNmi, X2Apic, X2ApicNmi, Other}

-- a processor with a local APIC (5.2.12.2)
abbrev pub local_apic_fields : LocalApicEntry → List Field
local_apic_fields e = byte e.uid ∷ byte e.apic ∷ dword e.flags ∷ []

abbrev pub local_apic_made : List Value → LocalApicEntry
local_apic_made values = record {
  uid = byte_of (value_at 0 values);
  apic = byte_of (value_at 1 values);
  flags = dword_of (value_at 2 values);
}

-- an I/O APIC (5.2.12.3)
abbrev pub io_apic_fields : IoApicEntry → List Field
io_apic_fields e = byte e.id ∷ reserved 1 ∷ dword e.address ∷ dword e.gsi ∷ []

abbrev pub io_apic_made : List Value → IoApicEntry
io_apic_made values = record {
  id = byte_of (value_at 0 values);
  address = dword_of (value_at 2 values);
  gsi = dword_of (value_at 3 values);
}

-- an interrupt source override (5.2.12.5)
abbrev pub override_fields : OverrideEntry → List Field
override_fields e = byte e.bus ∷ byte e.irq ∷ dword e.gsi ∷ word e.flags ∷ []

abbrev pub override_made : List Value → OverrideEntry
override_made values = record {
  bus = byte_of (value_at 0 values);
  irq = byte_of (value_at 1 values);
  gsi = dword_of (value_at 2 values);
  flags = word_of (value_at 3 values);
}

-- a local APIC's input of non-maskable interrupts (5.2.12.7)
abbrev pub local_nmi_fields : LocalNmiEntry → List Field
local_nmi_fields e = byte e.uid ∷ word e.flags ∷ byte e.lint ∷ []

abbrev pub local_nmi_made : List Value → LocalNmiEntry
local_nmi_made values = record {
  uid = byte_of (value_at 0 values);
  flags = word_of (value_at 1 values);
  lint = byte_of (value_at 2 values);
}

-- a processor with a local x2APIC (5.2.12.12)
abbrev pub x2apic_fields : X2ApicEntry → List Field
x2apic_fields e = reserved 2 ∷ dword e.apic ∷ dword e.flags ∷ dword e.uid ∷ []

abbrev pub x2apic_made : List Value → X2ApicEntry
x2apic_made values = record {
  apic = dword_of (value_at 1 values);
  flags = dword_of (value_at 2 values);
  uid = dword_of (value_at 3 values);
}

-- a local x2APIC's input of non-maskable interrupts (5.2.12.13)
abbrev pub x2apic_nmi_fields : X2ApicNmiEntry → List Field
x2apic_nmi_fields e = word e.flags ∷ dword e.uid ∷ byte e.lint ∷ reserved 3 ∷ []

abbrev pub x2apic_nmi_made : List Value → X2ApicNmiEntry
x2apic_nmi_made values = record {
  flags = word_of (value_at 0 values);
  uid = dword_of (value_at 1 values);
  lint = byte_of (value_at 2 values);
}

-- an entry as its type and the rows behind its length, or as its type and its length
abbrev pub madt_entry_of : MadtEntry → Entry
madt_entry_of (LocalApic e) = Known 0 (field_rows (local_apic_fields e))
madt_entry_of (IoApic e) = Known 1 (field_rows (io_apic_fields e))
madt_entry_of (Override e) = Known 2 (field_rows (override_fields e))
madt_entry_of (LocalNmi e) = Known 4 (field_rows (local_nmi_fields e))
madt_entry_of (X2Apic e) = Known 9 (field_rows (x2apic_fields e))
madt_entry_of (X2ApicNmi e) = Known 10 (field_rows (x2apic_nmi_fields e))
madt_entry_of (Other kind length) = OtherEntry kind length

-- The known types: of each the rows of a record that is made of no values, whose shape is that of all of its records.
abbrev pub madt_types : Types
madt_types kind =
    if kind == 0 then Some (shape (field_rows (local_apic_fields (local_apic_made []))))
    else if kind == 1 then Some (shape (field_rows (io_apic_fields (io_apic_made []))))
    else if kind == 2 then Some (shape (field_rows (override_fields (override_made []))))
    else if kind == 4 then Some (shape (field_rows (local_nmi_fields (local_nmi_made []))))
    else if kind == 9 then Some (shape (field_rows (x2apic_fields (x2apic_made []))))
    else if kind == 10 then Some (shape (field_rows (x2apic_nmi_fields (x2apic_nmi_made []))))
    else None

-- the entry of a known type that is made of the values of rows of so many bytes
abbrev pub known_madt_entry : ℕ → ℕ → List Value → MadtEntry
known_madt_entry kind count values =
    if kind == 0 then LocalApic (local_apic_made values)
    else if kind == 1 then IoApic (io_apic_made values)
    else if kind == 2 then Override (override_made values)
    else if kind == 4 then LocalNmi (local_nmi_made values)
    else if kind == 9 then X2Apic (x2apic_made values)
    else if kind == 10 then X2ApicNmi (x2apic_nmi_made values)
    else Other kind (2 + count)

-- the entry that these rows are
abbrev pub madt_entry : Entry → MadtEntry
madt_entry (Known kind rows) = known_madt_entry kind (size rows) (values_of rows [])
madt_entry (OtherEntry kind length) = Other kind length

-- An entry that can stand in a table: of another type only where that isn't known, and with room for its type and its length.
abbrev pub IsMadtEntry : MadtEntry → Type 0
IsMadtEntry (Other kind length) = (madt_types kind ≡ None) × (2 ≤ length)
IsMadtEntry entry = Unit {0}

-- how many bytes an entry has, with its type and its length
abbrev pub madt_entry_size : MadtEntry → ℕ
madt_entry_size (LocalApic e) = 8
madt_entry_size (IoApic e) = 12
madt_entry_size (Override e) = 10
madt_entry_size (LocalNmi e) = 6
madt_entry_size (X2Apic e) = 16
madt_entry_size (X2ApicNmi e) = 12
madt_entry_size (Other kind length) = length

-- an entry whose numbers fit its rows
abbrev pub IsFittingMadtEntry : MadtEntry → Type 0
IsFittingMadtEntry (LocalApic e) = (e.uid < 2 ^ 8) × (e.apic < 2 ^ 8) × (e.flags < 2 ^ 32)
IsFittingMadtEntry (IoApic e) = (e.id < 2 ^ 8) × (e.address < 2 ^ 32) × (e.gsi < 2 ^ 32)
IsFittingMadtEntry (Override e) = (e.bus < 2 ^ 8) × (e.irq < 2 ^ 8) × (e.gsi < 2 ^ 32) × (e.flags < 2 ^ 16)
IsFittingMadtEntry (LocalNmi e) = (e.uid < 2 ^ 8) × (e.flags < 2 ^ 16) × (e.lint < 2 ^ 8)
IsFittingMadtEntry (X2Apic e) = (e.apic < 2 ^ 32) × (e.flags < 2 ^ 32) × (e.uid < 2 ^ 32)
IsFittingMadtEntry (X2ApicNmi e) = (e.flags < 2 ^ 16) × (e.uid < 2 ^ 32) × (e.lint < 2 ^ 8)
IsFittingMadtEntry (Other kind length) = (kind < 2 ^ 8) × (length < 2 ^ 8)
