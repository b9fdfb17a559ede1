use Rattle.acpi_model.proofs.MadtsBack.{apic_back, cpus_back, io_apics_back, overrides_back, nmis_back}
use Rattle.acpi_model.proofs.laws.parts_of_a_machine_are_got_back_from_its_madt.Goals as goal

pub returns : goal.returns
returns c = record { apic = apic_back; cpus = cpus_back; io_apics = io_apics_back; overrides = overrides_back; nmis = nmis_back }
