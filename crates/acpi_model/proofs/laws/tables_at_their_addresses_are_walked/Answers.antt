use Rattle.acpi_model.proofs.OneAcpi.{walked}
use Rattle.acpi_model.proofs.laws.tables_at_their_addresses_are_walked.Goals as goal

pub returns : goal.returns
returns c = walked
