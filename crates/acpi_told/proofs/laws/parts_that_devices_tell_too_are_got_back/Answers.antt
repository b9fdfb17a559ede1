use Rattle.acpi_told.proofs.PartsBack.{machine_power, machine_bridge}
use Rattle.acpi_told.proofs.laws.parts_that_devices_tell_too_are_got_back.Goals as goal

pub returns-clause-power : goal.returns-clause-power
returns-clause-power c = machine_power

pub returns-clause-bridge : goal.returns-clause-bridge
returns-clause-bridge c = machine_bridge
