-- The Multiple APIC Description Table (ACPI 6.5, 5.2.12): a front, and the entries behind it.
use Rattle.std.specs.Prelude.{List, [], ◌∷◌, ◌++◌}
use Rattle.vt_layout.specs.declared.value.Value.{Value}
use Rattle.vt_layout.specs.Values.{value_at, dword_of}
use Rattle.vt_layout.specs.Fields.{Field, dword}
use Rattle.acpi_records.specs.declared.madt.MadtFront.{MadtFront}
use Rattle.acpi_records.specs.declared.madt.Madt.{Madt}
use Rattle.acpi_records.specs.declared.madt_entry.MadtEntry.{MadtEntry}
use Rattle.acpi_records.specs.Header.{head_fields, head_made}

abbrev pub madt_front_fields : MadtFront → List Field
madt_front_fields f = head_fields f.head ++ dword f.address ∷ dword f.flags ∷ []

abbrev pub madt_front_made : List Value → MadtFront
madt_front_made values = record {
  head = head_made values;
  address = dword_of (value_at 9 values);
  flags = dword_of (value_at 10 values);
}

-- the front of a table, and the table of a front and entries
abbrev pub madt_front_of : Madt → MadtFront
madt_front_of t = record { head = t.head; address = t.address; flags = t.flags }

abbrev pub madt_of : MadtFront → List MadtEntry → Madt
madt_of f entries = record { head = f.head; address = f.address; flags = f.flags; entries = entries }
