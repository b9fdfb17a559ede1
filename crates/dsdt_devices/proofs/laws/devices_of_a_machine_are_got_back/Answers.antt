use Rattle.dsdt_devices.proofs.DevicesBack.{devices_back}
use Rattle.dsdt_devices.proofs.laws.devices_of_a_machine_are_got_back.Goals as goal

pub returns : goal.returns
returns c = devices_back
