use Rattle.smbios_build.proofs.Accepted.{accepted_small}
use Rattle.smbios_build.proofs.laws.accepted_structures_are_small.Goals as goal

pub returns : goal.returns
returns c = accepted_small
