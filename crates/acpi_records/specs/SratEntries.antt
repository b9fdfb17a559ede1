-- The entries of the SRAT (ACPI 6.5, 5.2.16), as records of the rows behind their types and lengths. Clock domains are no fields of them.
use Rattle.std.specs.Prelude.{◌≡◌, ℕ, ◌+◌, ◌*◌, ◌/◌, ◌%◌, ◌^◌, ◌<◌, ◌≤◌, List, [], ◌∷◌, Some, None, ◌==◌, if◌then◌else◌}
use Rattle.vt_layout.specs.declared.value.Value.{Value}
use Rattle.vt_layout.specs.Rows.{size, shape}
use Rattle.vt_layout.specs.Entries.{Entry, Types, Known, Other as OtherEntry}
use Rattle.vt_layout.specs.Values.{value_at, byte_of, word_of, dword_of, qword_of, values_of}
use Rattle.vt_layout.specs.Fields.{Field, byte, word, dword, qword, reserved, field_rows}
use Rattle.acpi_records.specs.declared.srat_entry.ApicAffinity.{ApicAffinity}
use Rattle.acpi_records.specs.declared.srat_entry.MemoryAffinity.{MemoryAffinity}
use Rattle.acpi_records.specs.declared.srat_entry.X2ApicAffinity.{X2ApicAffinity}
use Rattle.acpi_records.specs.declared.srat_entry.SratEntry.{SratEntry}
use Rattle.acpi_records.specs.declared.srat_entry.SratEntry.TheVariants.{Apic, Memory, X2Apic, Other}

-- The node of a processor with a local APIC (5.2.16.1). The node's low byte stands in front, and bits 8 to 31 in three bytes.
abbrev pub apic_affinity_fields : ApicAffinity → List Field
apic_affinity_fields e =
    byte (e.node % 0x100) ∷ byte e.apic ∷ dword e.flags ∷ reserved 1 ∷ byte (e.node / 0x100 % 0x100) ∷ word (e.node / 0x100 / 0x100)
    ∷ reserved 4 ∷ []

-- the node of its low byte, the one above it, and the two above that
abbrev pub node_of : ℕ → ℕ → ℕ → ℕ
node_of low second high = low + 0x100 * (second + 0x100 * high)

abbrev pub apic_affinity_made : List Value → ApicAffinity
apic_affinity_made values = record {
  node = node_of (byte_of (value_at 0 values)) (byte_of (value_at 4 values)) (word_of (value_at 5 values));
  apic = byte_of (value_at 1 values);
  flags = dword_of (value_at 2 values);
}

-- the node of a range of memory (5.2.16.2)
abbrev pub memory_affinity_fields : MemoryAffinity → List Field
memory_affinity_fields e = dword e.node ∷ reserved 2 ∷ qword e.base ∷ qword e.length ∷ reserved 4 ∷ dword e.flags ∷ reserved 8 ∷ []

abbrev pub memory_affinity_made : List Value → MemoryAffinity
memory_affinity_made values = record {
  node = dword_of (value_at 0 values);
  base = qword_of (value_at 2 values);
  length = qword_of (value_at 3 values);
  flags = dword_of (value_at 5 values);
}

-- the node of a processor with a local x2APIC (5.2.16.3)
abbrev pub x2apic_affinity_fields : X2ApicAffinity → List Field
x2apic_affinity_fields e = reserved 2 ∷ dword e.node ∷ dword e.apic ∷ dword e.flags ∷ reserved 4 ∷ reserved 4 ∷ []

abbrev pub x2apic_affinity_made : List Value → X2ApicAffinity
x2apic_affinity_made values = record {
  node = dword_of (value_at 1 values);
  apic = dword_of (value_at 2 values);
  flags = dword_of (value_at 3 values);
}

-- an entry as its type and the rows behind its length, or as its type and its length
abbrev pub srat_entry_of : SratEntry → Entry
srat_entry_of (Apic e) = Known 0 (field_rows (apic_affinity_fields e))
srat_entry_of (Memory e) = Known 1 (field_rows (memory_affinity_fields e))
srat_entry_of (X2Apic e) = Known 2 (field_rows (x2apic_affinity_fields e))
srat_entry_of (Other kind length) = OtherEntry kind length

-- The known types: of each the rows of a record that is made of no values, whose shape is that of all of its records.
abbrev pub srat_types : Types
srat_types kind =
    if kind == 0 then Some (shape (field_rows (apic_affinity_fields (apic_affinity_made []))))
    else if kind == 1 then Some (shape (field_rows (memory_affinity_fields (memory_affinity_made []))))
    else if kind == 2 then Some (shape (field_rows (x2apic_affinity_fields (x2apic_affinity_made []))))
    else None

-- the entry of a known type that is made of the values of rows of so many bytes
abbrev pub known_srat_entry : ℕ → ℕ → List Value → SratEntry
known_srat_entry kind count values =
    if kind == 0 then Apic (apic_affinity_made values)
    else if kind == 1 then Memory (memory_affinity_made values)
    else if kind == 2 then X2Apic (x2apic_affinity_made values)
    else Other kind (2 + count)

-- the entry that these rows are
abbrev pub srat_entry : Entry → SratEntry
srat_entry (Known kind rows) = known_srat_entry kind (size rows) (values_of rows [])
srat_entry (OtherEntry kind length) = Other kind length

-- An entry that can stand in a table: of another type only where that isn't known, and with room for its type and its length.
abbrev pub IsSratEntry : SratEntry → Type 0
IsSratEntry (Other kind length) = (srat_types kind ≡ None) × (2 ≤ length)
IsSratEntry entry = Unit {0}

-- how many bytes an entry has, with its type and its length
abbrev pub srat_entry_size : SratEntry → ℕ
srat_entry_size (Apic e) = 16
srat_entry_size (Memory e) = 40
srat_entry_size (X2Apic e) = 24
srat_entry_size (Other kind length) = length

-- an entry whose numbers fit its rows
abbrev pub IsFittingSratEntry : SratEntry → Type 0
IsFittingSratEntry (Apic e) = (e.node < 2 ^ 32) × (e.apic < 2 ^ 8) × (e.flags < 2 ^ 32)
IsFittingSratEntry (Memory e) = (e.node < 2 ^ 32) × (e.base < 2 ^ 64) × (e.length < 2 ^ 64) × (e.flags < 2 ^ 32)
IsFittingSratEntry (X2Apic e) = (e.node < 2 ^ 32) × (e.apic < 2 ^ 32) × (e.flags < 2 ^ 32)
IsFittingSratEntry (Other kind length) = (kind < 2 ^ 8) × (length < 2 ^ 8)
