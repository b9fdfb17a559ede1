use Rattle.smbios_install.proofs.FrontSame.{front_same}
use Rattle.smbios_install.proofs.laws.commands_in_front_do_the_same.Goals as goal

pub returns : goal.returns
returns c = front_same
