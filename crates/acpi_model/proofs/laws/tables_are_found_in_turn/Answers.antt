use Rattle.acpi_model.proofs.FoundInTurn.{found_in_turn}
use Rattle.acpi_model.proofs.laws.tables_are_found_in_turn.Goals as goal

pub returns : goal.returns
returns c = found_in_turn
