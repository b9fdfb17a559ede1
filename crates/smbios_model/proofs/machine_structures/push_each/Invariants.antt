use Rattle.std.proofs.Common.{◌≡◌, ◌+◌, ◌++◌, map, take}
use Rattle.smbios_model.specs.MachineStructures.{with_handles}
use Rattle.smbios_model.proofs.machine_structures.push_each.Given as goal

abbrev pub invariant-loop-part : goal.invariant-loop-part
invariant-loop-part g l = record {
  told : l.structures ≡ l.fn.structures ++ with_handles l.fn.first (map g.P.Told.says (take l.part-index l.part-items));
  counts : l.handle ≡ l.fn.first + l.part-index;
}
