use Rattle.std.proofs.Common.{◌≡◌, min, length, take}
use Rattle.smbios_build.specs.Spelling.{structures_bytes}
use Rattle.smbios_build.proofs.sizes.structures_size.Given as goal

abbrev pub invariant-loop-structure : goal.invariant-loop-structure
invariant-loop-structure l = l.total ≡ min (length (structures_bytes (take l.structure-index l.structures))) 0xFFFFFFFFFFFFFFFF
