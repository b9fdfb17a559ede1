use Rattle.std.proofs.Common.{rules}
use Rattle.vt_outside.specs.Name.{name_of}
use Rattle.cfg_directory.proofs.smbios_names.structures_name.Goals as goal

pub unwrap-requires : goal.unwrap-requires
unfolding name_of
unwrap-requires c = search rules

pub returns : goal.returns
unfolding name_of
returns c = search rules
