use Rattle.acpi_told.proofs.PartsBack.{ranges_back}
use Rattle.acpi_told.proofs.laws.nodes_of_ranges_are_got_back.Goals as goal

pub returns : goal.returns
returns c = ranges_back
