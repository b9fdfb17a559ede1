use Rattle.smbios_build.proofs.Read.{one_spelling}
use Rattle.smbios_build.proofs.laws.no_spelling_is_a_prefix_of_another.Goals as goal

pub returns : goal.returns
returns c = one_spelling
