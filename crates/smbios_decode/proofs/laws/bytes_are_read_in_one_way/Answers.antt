use Rattle.smbios_decode.proofs.OneReading.{one_meaning}
use Rattle.smbios_decode.proofs.laws.bytes_are_read_in_one_way.Goals as goal

pub returns : goal.returns
returns c = one_meaning
