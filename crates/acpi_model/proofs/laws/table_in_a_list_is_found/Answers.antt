use Rattle.acpi_model.proofs.Parts.{found_by_signature}
use Rattle.acpi_model.proofs.laws.table_in_a_list_is_found.Goals as goal

pub returns : goal.returns
returns c = found_by_signature
