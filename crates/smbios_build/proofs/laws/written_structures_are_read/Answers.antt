use Rattle.smbios_build.proofs.Read.{built_structures}
use Rattle.smbios_build.proofs.laws.written_structures_are_read.Goals as goal

pub returns : goal.returns
returns c = built_structures
