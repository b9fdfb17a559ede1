use Rattle.smbios_install.proofs.Standing.{installed_stand}
use Rattle.smbios_install.proofs.laws.installed_structures_stand.Goals as goal

pub returns : goal.returns
returns c = installed_stand
