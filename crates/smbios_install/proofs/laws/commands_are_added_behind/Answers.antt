use Rattle.smbios_install.proofs.AddedBehind.{added_behind}
use Rattle.smbios_install.proofs.laws.commands_are_added_behind.Goals as goal

pub returns : goal.returns
returns c = added_behind
