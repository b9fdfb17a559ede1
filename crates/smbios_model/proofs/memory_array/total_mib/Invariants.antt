use Rattle.std.proofs.Common.{◌≡◌, ◌*◌, ◌^◌, ◌≤◌, take}
use Rattle.smbios_model.specs.MemoryArray.{total_mib}
use Rattle.smbios_model.proofs.memory_array.total_mib.Given as goal

abbrev pub invariant-loop-dimm : goal.invariant-loop-dimm
invariant-loop-dimm l = record { told : l.total ≡ total_mib (take l.dimm-index l.dimms); small : l.total ≤ l.dimm-index * 2 ^ 32 }
