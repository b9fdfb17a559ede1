use Rattle.acpi_model.proofs.AcceptedAcpi.{accepted_fits}
use Rattle.table_model.proofs.inventory.acpi_part.Goals as goal

pub acpi_of-requires-clause-fits : goal.acpi_of-requires-clause-fits
acpi_of-requires-clause-fits c = accepted_fits c.args.machine.now c.in-Some.acpi c.requires c.in-Some.is
