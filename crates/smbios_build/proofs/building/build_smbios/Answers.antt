use Rattle.smbios_build.proofs.Read.{each_buildable}
use Rattle.smbios_build.proofs.building.build_smbios.Goals as goal

pub structures_size-requires : goal.structures_size-requires
structures_size-requires c = each_buildable c.args.structures.now c.requires
