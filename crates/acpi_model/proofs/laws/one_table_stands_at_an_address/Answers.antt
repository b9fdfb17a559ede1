use Rattle.acpi_model.proofs.OneLayout.{one_at}
use Rattle.acpi_model.proofs.laws.one_table_stands_at_an_address.Goals as goal

pub returns : goal.returns
returns c = one_at
