-- The SLIT (ACPI 6.5, 5.2.17), whose count says how many bytes its distances have, as a kind of table.
use Rattle.std.specs.Prelude.{ℕ, ◌+◌, ◌*◌, List, [], ◌∷◌, ◌++◌, Option, Some, None, unwrap_or, nat_le, ◌&&◌, if◌then◌else◌, codes}
use Rattle.vt_bytes.specs.View.{View, number_in}
use Rattle.vt_layout.specs.declared.row.Row.{Row}
use Rattle.vt_layout.specs.declared.row.Row.TheVariants.{Bytes}
use Rattle.vt_layout.specs.Rows.{shape, text}
use Rattle.vt_layout.specs.Values.{values_of}
use Rattle.acpi_records.specs.declared.slit.Slit.{Slit}
use Rattle.acpi_records.specs.Header.{header_rows, body_rows}
use Rattle.acpi_records.specs.Slit.{slit_front_fields, slit_front_made, slit_front_of, slit_of, distances_row}
use Rattle.acpi_model.specs.declared.acpi.Table.{Table}
use Rattle.acpi_model.specs.declared.acpi.Table.TheVariants.{Slit as SlitVariant}
use Rattle.acpi_model.specs.Kinds.{Kind, TableLayout}

-- the most nodes that a SLIT tells of
abbrev pub most_nodes : ℕ
most_nodes = 1024

-- The shape of the rows behind the header of a table of so many bytes with this count: the count, and the count's square of distances.
-- There is none where the count is above the most, or where the distances end behind the table; they may end before it does.
abbrev pub counted_shape : ℕ → ℕ → Option (List Row)
counted_shape total count =
    if nat_le count most_nodes && nat_le (44 + count * count) total
    then Some (shape (body_rows (slit_front_fields (slit_front_made []))) ++ Bytes (count * count) [] ∷ []) else None

-- the count of a table at an address, behind its header, or 0 where it isn't there
abbrev pub count_at : View → ℕ → ℕ
count_at view address = unwrap_or (number_in view (address + 36) 8) 0

abbrev pub slit_kind : Kind
slit_kind = record {
  signature = codes "SLIT";
  shape = λ view address total. counted_shape total (count_at view address);
  types = None;
  table = λ head body entries. SlitVariant (slit_of (slit_front_made (values_of (header_rows (codes "SLIT") 0 head ++ body) [])) (text 1 body));
}

abbrev pub slit_layout : Slit → TableLayout
slit_layout t = record {
  kind = slit_kind;
  head = t.head;
  body = body_rows (slit_front_fields (slit_front_of t)) ++ distances_row t.distances ∷ [];
  entries = [];
}

-- a table as one of this kind
abbrev pub as_slit : Table → Option Slit
as_slit (SlitVariant t) = Some t
as_slit table = None
