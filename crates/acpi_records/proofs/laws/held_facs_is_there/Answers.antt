use Rattle.acpi_records.proofs.FacsStands.{held_facs}
use Rattle.acpi_records.proofs.laws.held_facs_is_there.Goals as goal

pub returns : goal.returns
returns c = held_facs
