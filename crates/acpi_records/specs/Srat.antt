-- The System Resource Affinity Table (ACPI 6.5, 5.2.16): a front, and the entries behind it.
use Rattle.std.specs.Prelude.{List, [], ◌∷◌, ◌++◌}
use Rattle.vt_layout.specs.declared.row.Row.TheVariants.{Ignored}
use Rattle.vt_layout.specs.declared.value.Value.{Value}
use Rattle.vt_layout.specs.Fields.{Field, Plain, reserved}
use Rattle.acpi_records.specs.declared.srat.SratFront.{SratFront}
use Rattle.acpi_records.specs.declared.srat.Srat.{Srat}
use Rattle.acpi_records.specs.declared.srat_entry.SratEntry.{SratEntry}
use Rattle.acpi_records.specs.Header.{head_fields, head_made}

-- Behind the header stand a 1, which the standard keeps for older readers, and eight zeros; both are no fields of the table.
abbrev pub srat_front_fields : SratFront → List Field
srat_front_fields f = head_fields f.head ++ Plain (Ignored 4 1) ∷ reserved 8 ∷ []

abbrev pub srat_front_made : List Value → SratFront
srat_front_made values = record { head = head_made values }

-- the front of a table, and the table of a front and entries
abbrev pub srat_front_of : Srat → SratFront
srat_front_of t = record { head = t.head }

abbrev pub srat_of : SratFront → List SratEntry → Srat
srat_of f entries = record { head = f.head; entries = entries }
