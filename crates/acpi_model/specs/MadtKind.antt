-- The MADT (ACPI 6.5, 5.2.12), which ends with entries, as a kind of table.
use Rattle.std.specs.Prelude.{[], ◌++◌, map, Option, Some, None, codes}
use Rattle.vt_layout.specs.Rows.{shape}
use Rattle.vt_layout.specs.Values.{values_of}
use Rattle.acpi_records.specs.declared.madt.Madt.{Madt}
use Rattle.acpi_records.specs.Header.{header_rows, body_rows}
use Rattle.acpi_records.specs.Madt.{madt_front_fields, madt_front_made, madt_front_of, madt_of}
use Rattle.acpi_records.specs.MadtEntries.{madt_types, madt_entry, madt_entry_of}
use Rattle.acpi_model.specs.declared.acpi.Table.{Table}
use Rattle.acpi_model.specs.declared.acpi.Table.TheVariants.{Madt as MadtVariant}
use Rattle.acpi_model.specs.Kinds.{Kind, TableLayout}

abbrev pub madt_kind : Kind
madt_kind = record {
  signature = codes "APIC";
  shape = λ view address total. Some (shape (body_rows (madt_front_fields (madt_front_made []))));
  types = Some madt_types;
  table = λ head body entries.
      MadtVariant (madt_of (madt_front_made (values_of (header_rows (codes "APIC") 0 head ++ body) [])) (map madt_entry entries));
}

abbrev pub madt_layout : Madt → TableLayout
madt_layout t = record {
  kind = madt_kind;
  head = t.head;
  body = body_rows (madt_front_fields (madt_front_of t));
  entries = map madt_entry_of t.entries;
}

-- a table as one of this kind
abbrev pub as_madt : Table → Option Madt
as_madt (MadtVariant t) = Some t
as_madt table = None
