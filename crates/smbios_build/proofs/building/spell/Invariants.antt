use Rattle.std.proofs.Common.{◌≡◌, take}
use Rattle.std.specs.List.{AllByRecursion}
use Rattle.smbios_build.specs.Spelling.{structures_bytes}
use Rattle.smbios_build.specs.Buildable.{HasFittingNumbers}
use Rattle.smbios_build.proofs.building.spell.Given as goal

abbrev pub invariant-loop-structure : goal.invariant-loop-structure
invariant-loop-structure l = record {
  written : l.bytes ≡ structures_bytes (take l.structure-index l.structures);
  fit : AllByRecursion HasFittingNumbers (take l.structure-index l.structures);
}
