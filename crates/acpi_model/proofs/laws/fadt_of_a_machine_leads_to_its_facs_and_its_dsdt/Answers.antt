use Rattle.acpi_model.proofs.MachineTargets.{machine_leads}
use Rattle.acpi_model.proofs.laws.fadt_of_a_machine_leads_to_its_facs_and_its_dsdt.Goals as goal

pub returns : goal.returns
returns c = machine_leads
