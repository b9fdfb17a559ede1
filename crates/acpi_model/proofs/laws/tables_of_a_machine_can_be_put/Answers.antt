use Rattle.acpi_model.proofs.MachineTables.{machine_writable, machine_number, machine_bytes, machine_can}
use Rattle.acpi_model.proofs.laws.tables_of_a_machine_can_be_put.Goals as goal

pub returns : goal.returns
returns c = record { writable = machine_writable; number = machine_number; bytes = machine_bytes; put = machine_can }
