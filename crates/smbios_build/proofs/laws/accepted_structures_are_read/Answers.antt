use Rattle.smbios_build.proofs.AcceptedNumbers.{accepted_numbers, accepted_read}
use Rattle.smbios_build.proofs.laws.accepted_structures_are_read.Goals as goal

pub returns : goal.returns
returns c = record { fit = accepted_numbers; read = accepted_read }
