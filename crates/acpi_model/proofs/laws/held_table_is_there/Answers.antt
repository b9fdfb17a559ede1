use Rattle.acpi_model.proofs.HeldTables.{held_table}
use Rattle.acpi_model.proofs.laws.held_table_is_there.Goals as goal

pub returns : goal.returns
returns c = held_table
