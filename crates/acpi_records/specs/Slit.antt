-- The System Locality Information Table (ACPI 6.5, 5.2.17): a front, and the distances behind it.
use Rattle.std.specs.Prelude.{ℕ, List, [], ◌∷◌, ◌++◌, length}
use Rattle.vt_layout.specs.declared.row.Row.{Row}
use Rattle.vt_layout.specs.declared.row.Row.TheVariants.{Bytes}
use Rattle.vt_layout.specs.declared.value.Value.{Value}
use Rattle.vt_layout.specs.Values.{value_at, qword_of}
use Rattle.vt_layout.specs.Fields.{Field, qword}
use Rattle.acpi_records.specs.declared.slit.SlitFront.{SlitFront}
use Rattle.acpi_records.specs.declared.slit.Slit.{Slit}
use Rattle.acpi_records.specs.Header.{head_fields, head_made}

abbrev pub slit_front_fields : SlitFront → List Field
slit_front_fields f = head_fields f.head ++ qword f.count ∷ []

abbrev pub slit_front_made : List Value → SlitFront
slit_front_made values = record { head = head_made values; count = qword_of (value_at 9 values) }

-- the front of a table, and the table of a front and distances
abbrev pub slit_front_of : Slit → SlitFront
slit_front_of t = record { head = t.head; count = t.count }

abbrev pub slit_of : SlitFront → List ℕ → Slit
slit_of f distances = record { head = f.head; count = f.count; distances = distances }

-- the one row of the distances
abbrev pub distances_row : List ℕ → Row
distances_row distances = Bytes (length distances) distances
