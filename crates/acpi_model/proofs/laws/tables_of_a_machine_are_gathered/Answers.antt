use Rattle.std.proofs.Common.{[]}
use Rattle.acpi_records.specs.Header.{padded, head_of}
use Rattle.acpi_model.specs.Acpi.{tables_of, targets_of}
use Rattle.acpi_model.proofs.SameTold.{gathered-linked}
use Rattle.acpi_model.proofs.MachineTables.{machine_distinct}
use Rattle.acpi_model.proofs.laws.tables_of_a_machine_are_gathered.Goals as goal

pub returns : goal.returns
returns c = record {
  distinct = machine_distinct;
  told = λ place_of machine acpi. gathered-linked place_of (padded 6 acpi.oem_id) (head_of acpi 1) (tables_of machine acpi) (targets_of machine acpi) [];
}
