use Rattle.acpi_model.proofs.FoundInTurn.{nothing_found}
use Rattle.acpi_model.proofs.laws.nothing_is_found_at_no_addresses.Goals as goal

pub returns : goal.returns
returns c = nothing_found
