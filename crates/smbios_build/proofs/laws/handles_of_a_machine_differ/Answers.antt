use Rattle.smbios_build.proofs.Handles.{handles_differ}
use Rattle.smbios_build.proofs.laws.handles_of_a_machine_differ.Goals as goal

pub returns : goal.returns
returns c = handles_differ
