use Rattle.acpi_records.proofs.FacsStands.{one_facs}
use Rattle.acpi_records.proofs.laws.one_facs_stands_at_an_address.Goals as goal

pub returns : goal.returns
returns c = one_facs
