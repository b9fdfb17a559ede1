use Rattle.acpi_model.proofs.FoundInTurn.{table_grows, other_grows}
use Rattle.acpi_model.proofs.laws.found_tables_grow.Goals as goal

pub returns : goal.returns
returns c = record { table = table_grows; other = other_grows }
