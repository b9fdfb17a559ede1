use Rattle.acpi_model.proofs.Dsdts.{one_dsdt}
use Rattle.acpi_model.proofs.laws.one_dsdt_stands_at_an_address.Goals as goal

pub returns : goal.returns
returns c = one_dsdt
