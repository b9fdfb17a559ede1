use Rattle.std.proofs.Common.{◌≡◌, take}
use Rattle.smbios_model.specs.ToldParts.{all_told}
use Rattle.smbios_told.proofs.told.all_told.Given as goal

abbrev pub invariant-loop-structure : goal.invariant-loop-structure
invariant-loop-structure g l = l.parts ≡ all_told g.T.Told.told (take l.structure-index l.structures)
