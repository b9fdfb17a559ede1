use Rattle.smbios_install.proofs.ReadBehind.{read_so, reads_so}
use Rattle.smbios_install.proofs.laws.installed_structures_are_read.Goals as goal

pub returns : goal.returns
returns c = λ view place bytes result is told. (read_so view place bytes result is told, reads_so view place bytes result is told)
