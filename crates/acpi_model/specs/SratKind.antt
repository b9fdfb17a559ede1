-- The SRAT (ACPI 6.5, 5.2.16), which ends with entries, as a kind of table.
use Rattle.std.specs.Prelude.{[], ◌++◌, map, Option, Some, None, codes}
use Rattle.vt_layout.specs.Rows.{shape}
use Rattle.vt_layout.specs.Values.{values_of}
use Rattle.acpi_records.specs.declared.srat.Srat.{Srat}
use Rattle.acpi_records.specs.Header.{header_rows, body_rows}
use Rattle.acpi_records.specs.Srat.{srat_front_fields, srat_front_made, srat_front_of, srat_of}
use Rattle.acpi_records.specs.SratEntries.{srat_types, srat_entry, srat_entry_of}
use Rattle.acpi_model.specs.declared.acpi.Table.{Table}
use Rattle.acpi_model.specs.declared.acpi.Table.TheVariants.{Srat as SratVariant}
use Rattle.acpi_model.specs.Kinds.{Kind, TableLayout}

abbrev pub srat_kind : Kind
srat_kind = record {
  signature = codes "SRAT";
  shape = λ view address total. Some (shape (body_rows (srat_front_fields (srat_front_made []))));
  types = Some srat_types;
  table = λ head body entries.
      SratVariant (srat_of (srat_front_made (values_of (header_rows (codes "SRAT") 0 head ++ body) [])) (map srat_entry entries));
}

abbrev pub srat_layout : Srat → TableLayout
srat_layout t = record {
  kind = srat_kind;
  head = t.head;
  body = body_rows (srat_front_fields (srat_front_of t));
  entries = map srat_entry_of t.entries;
}

-- a table as one of this kind
abbrev pub as_srat : Table → Option Srat
as_srat (SratVariant t) = Some t
as_srat table = None
