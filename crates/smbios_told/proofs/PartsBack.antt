-- The parts of an accepted machine are got back from its structures.
use Rattle.std.proofs.Common.{◌≡◌, List, map, ap, ◌∙◌}
use Rattle.machine_desc.specs.declared.machine.Machine.{Machine}
use Rattle.machine_desc.specs.declared.smbios_parts.MemRange.{MemRange}
use Rattle.machine_desc.specs.Rules.{IsAccepted, HasFittingUuids}
use Rattle.smbios_model.specs.MachineStructures.{structures_of}
use Rattle.smbios_model.specs.ToldParts.{range_told, all_told}
use Rattle.smbios_model.proofs.WayBack.{machine_back, ranges_but_nodes}
use Rattle.smbios_told.specs.declared.parts.SmbiosParts.{SmbiosParts}
use Rattle.smbios_told.specs.Parts.{parts_in}

-- the parts of a machine that structures tell, with these ranges
abbrev parts_of : Machine → List MemRange → SmbiosParts
parts_of m ranges = record {
  oem_strings = m.oem_strings;
  system = m.system;
  firmware = m.firmware;
  chassis = m.chassis;
  sockets = m.sockets;
  dimms = m.dimms;
  ranges = ranges;
  slots = m.slots;
}

-- all parts, of ranges all but their nodes
pub parts_back : (m : Machine) → IsAccepted m → HasFittingUuids m
    → parts_in (structures_of m) ≡ parts_of m (map (λ (r : MemRange). record r { node = 0 }) m.ranges)
parts_back m accepted fits =
    ap (λ (back : Machine). parts_of back (all_told range_told (structures_of m))) (machine_back m accepted fits)
    ∙ ap (parts_of m) (ranges_but_nodes m accepted)
