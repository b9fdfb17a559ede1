use Rattle.acpi_model.proofs.Xsdt.{held_xsdt}
use Rattle.acpi_model.proofs.laws.held_xsdt_is_there.Goals as goal

pub returns : goal.returns
returns c = held_xsdt
