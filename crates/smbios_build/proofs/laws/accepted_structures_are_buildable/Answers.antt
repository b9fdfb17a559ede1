use Rattle.smbios_build.proofs.Accepted.{accepted_buildable}
use Rattle.smbios_build.proofs.laws.accepted_structures_are_buildable.Goals as goal

pub returns : goal.returns
returns c = accepted_buildable
