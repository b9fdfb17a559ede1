use Rattle.acpi_model.proofs.Maker.{acpi_back}
use Rattle.acpi_model.proofs.laws.maker_is_got_back.Goals as goal

pub returns : goal.returns
returns c = acpi_back
