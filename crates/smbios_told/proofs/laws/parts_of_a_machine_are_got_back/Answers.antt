use Rattle.smbios_told.proofs.PartsBack.{parts_back}
use Rattle.smbios_told.proofs.laws.parts_of_a_machine_are_got_back.Goals as goal

pub returns : goal.returns
returns c = parts_back
