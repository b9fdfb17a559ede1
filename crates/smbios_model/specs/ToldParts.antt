-- The parts of a machine that structures tell, each from those of its own type (DMTF DSP0134, version 3.0.0, chapter 7). A structure that is
-- raw tells none.
use Rattle.std.specs.Prelude.{ℕ, List, [], ◌∷◌, Option, Some, None, slice_get, get_or}
use Rattle.std.specs.List.{filter_map}
use Rattle.machine_desc.specs.declared.machine.System.{System as SystemPart}
use Rattle.machine_desc.specs.declared.smbios_parts.Socket.{Socket}
use Rattle.machine_desc.specs.declared.smbios_parts.Slot.{Slot as SlotPart}
use Rattle.machine_desc.specs.declared.smbios_parts.Dimm.{Dimm}
use Rattle.machine_desc.specs.declared.smbios_parts.MemRange.{MemRange}
use Rattle.machine_desc.specs.declared.smbios_parts.Firmware.{Firmware}
use Rattle.machine_desc.specs.declared.smbios_parts.Chassis.{Chassis as ChassisPart}
use Rattle.smbios_model.specs.declared.smbios.Body.{Body}
use Rattle.smbios_model.specs.declared.smbios.Body.TheVariants.{Bios, System, Chassis, Processor, Slot, OemStrings, Device, Mapped}
use Rattle.smbios_model.specs.declared.smbios.Structure.{Structure}
use Rattle.smbios_model.specs.BiosInformation.{firmware_in}
use Rattle.smbios_model.specs.SystemInformation.{system_part_in}
use Rattle.smbios_model.specs.ChassisInformation.{chassis_part_in}
use Rattle.smbios_model.specs.ProcessorInformation.{socket_in}
use Rattle.smbios_model.specs.SlotInformation.{slot_part_in}
use Rattle.smbios_model.specs.MemoryDevice.{dimm_in}
use Rattle.smbios_model.specs.MappedAddress.{range_in}

-- the part that a body tells

abbrev pub firmware_told : Body → Option Firmware
firmware_told (Bios info) = Some (firmware_in info)
firmware_told body = None

abbrev pub system_told : Body → Option SystemPart
system_told (System info) = Some (system_part_in info)
system_told body = None

abbrev pub chassis_told : Body → Option ChassisPart
chassis_told (Chassis info) = Some (chassis_part_in info)
chassis_told body = None

abbrev pub socket_told : Body → Option Socket
socket_told (Processor info) = Some (socket_in info)
socket_told body = None

abbrev pub slot_told : Body → Option SlotPart
slot_told (Slot info) = Some (slot_part_in info)
slot_told body = None

abbrev pub texts_told : Body → Option (List (List ℕ))
texts_told (OemStrings texts) = Some texts
texts_told body = None

abbrev pub dimm_told : Body → Option Dimm
dimm_told (Device info) = Some (dimm_in info)
dimm_told body = None

abbrev pub range_told : Body → Option MemRange
range_told (Mapped info) = Some (range_in info)
range_told body = None

-- those that structures tell, in their order
abbrev pub all_told : {Part : Type 0} → (Body → Option Part) → List Structure → List Part
all_told told structures = filter_map (λ (s : Structure). told s.body) structures

-- a system of which nothing is known
abbrev pub unknown_system : SystemPart
unknown_system = record { manufacturer = []; product = []; version = []; serial = []; sku = []; family = []; uuid = None }

-- Of a part that a machine has once, the first is told. A machine has a system whatever is told.

abbrev pub oem_strings_in : List Structure → List (List ℕ)
oem_strings_in structures = get_or (all_told texts_told structures) 0 []

abbrev pub the_system_in : List Structure → SystemPart
the_system_in structures = get_or (all_told system_told structures) 0 unknown_system

abbrev pub the_firmware_in : List Structure → Option Firmware
the_firmware_in structures = slice_get (all_told firmware_told structures) 0

abbrev pub the_chassis_in : List Structure → Option ChassisPart
the_chassis_in structures = slice_get (all_told chassis_told structures) 0

-- Of a range structures don't tell the node. Ranges on these nodes, one after the other; those for which there is none stay.
abbrev pub on_nodes : List ℕ → List MemRange → List MemRange
on_nodes [] ranges = ranges
on_nodes (node ∷ nodes) [] = []
on_nodes (node ∷ nodes) (r ∷ ranges) = record r { node = node } ∷ on_nodes nodes ranges
