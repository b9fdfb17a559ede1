use Rattle.acpi_model.proofs.Dsdts.{held_dsdt}
use Rattle.acpi_model.proofs.laws.held_dsdt_is_there.Goals as goal

pub returns : goal.returns
returns c = held_dsdt
