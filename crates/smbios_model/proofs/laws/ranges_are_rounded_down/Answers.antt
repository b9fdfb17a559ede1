use Rattle.smbios_model.proofs.GotBack.{kib_down, bytes_down}
use Rattle.smbios_model.proofs.laws.ranges_are_rounded_down.Goals as goal

pub returns : goal.returns
returns c = record { kib = kib_down; bytes = bytes_down }
