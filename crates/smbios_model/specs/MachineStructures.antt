-- The SMBIOS structures of a machine, with their handles (DMTF DSP0134, version 3.0.0, 6.1.2).
use Rattle.std.specs.Prelude.{ℕ, ◌+◌, List, [], ◌∷◌, ◌++◌, map, Option}
use Rattle.std.specs.List.{flat_map}
use Rattle.std.specs.Option.{option_to_list}
use Rattle.machine_desc.specs.declared.machine.Machine.{Machine}
use Rattle.machine_desc.specs.declared.machine.System.{System as SystemPart}
use Rattle.machine_desc.specs.declared.smbios_parts.Socket.{Socket}
use Rattle.machine_desc.specs.declared.smbios_parts.Slot.{Slot as SlotPart}
use Rattle.machine_desc.specs.declared.smbios_parts.Dimm.{Dimm}
use Rattle.machine_desc.specs.declared.smbios_parts.MemRange.{MemRange}
use Rattle.machine_desc.specs.declared.smbios_parts.Firmware.{Firmware}
use Rattle.machine_desc.specs.declared.smbios_parts.Chassis.{Chassis as ChassisPart}
use Rattle.smbios_model.specs.declared.smbios.Body.{Body}
use Rattle.smbios_model.specs.declared.smbios.Body.TheVariants.{Bios, System, Chassis, Processor, Slot, OemStrings, Array, Device, Mapped, Boot, End}
use Rattle.smbios_model.specs.declared.smbios.Structure.{Structure}
use Rattle.smbios_model.specs.StructureKinds.{StructureKind}
use Rattle.smbios_model.specs.BiosInformation.{bios_kind, bios_of}
use Rattle.smbios_model.specs.SystemInformation.{system_kind, system_of}
use Rattle.smbios_model.specs.ChassisInformation.{chassis_kind, chassis_of}
use Rattle.smbios_model.specs.ProcessorInformation.{processor_kind, processor_of}
use Rattle.smbios_model.specs.SlotInformation.{slot_kind, slot_of}
use Rattle.smbios_model.specs.OemStrings.{oem_strings_kind}
use Rattle.smbios_model.specs.MemoryArray.{array_kind, array_handle, array_of}
use Rattle.smbios_model.specs.MemoryDevice.{device_kind, device_of}
use Rattle.smbios_model.specs.MappedAddress.{mapped_kind, mapped_of}
use Rattle.smbios_model.specs.BootInformation.{boot_kind, boot_info}
use Rattle.smbios_model.specs.Structures.{end_kind}

-- Structures of one kind that follow one another: the handle of the first, how many there are at most, and what they say.
pub record Part : Type 0 where
  pub kind : StructureKind
  pub first : ℕ
  pub most : ℕ
  pub bodies : List Body

-- a structure for each element of a list
abbrev pub each : {Element : Type 0} → StructureKind → ℕ → ℕ → (Element → Body) → List Element → Part
each kind first most body_of elements = record { kind = kind; first = first; most = most; bodies = map body_of elements }

-- all elements of a list as one, where there are some
abbrev pub if_some : {Element : Type 0} → List Element → List (List Element)
if_some [] = []
if_some (element ∷ elements) = (element ∷ elements) ∷ []

-- their handles count up
abbrev pub with_handles : ℕ → List Body → List Structure
with_handles handle [] = []
with_handles handle (body ∷ bodies) = record { handle = handle; body = body } ∷ with_handles (handle + 1) bodies

abbrev pub structures_in : Part → List Structure
structures_in part = with_handles part.first part.bodies

-- what the structure of each part of a machine says

abbrev pub bios_body : Firmware → Body
bios_body firmware = Bios (bios_of firmware)

abbrev pub system_body : SystemPart → Body
system_body system = System (system_of system)

abbrev pub chassis_body : ChassisPart → Body
chassis_body chassis = Chassis (chassis_of chassis)

abbrev pub processor_body : Socket → Body
processor_body socket = Processor (processor_of socket)

abbrev pub slot_body : SlotPart → Body
slot_body slot = Slot (slot_of slot)

abbrev pub array_body : List Dimm → Body
array_body dimms = Array (array_of dimms)

abbrev pub device_body : Dimm → Body
device_body dimm = Device (device_of dimm)

abbrev pub mapped_body : MemRange → Body
mapped_body range = Mapped (mapped_of range)

abbrev pub boot_body : Firmware → Body
boot_body firmware = Boot boot_info

-- the structures of each kind

abbrev pub bios_part : Option Firmware → Part
bios_part firmware = each bios_kind 0x0000 1 bios_body (option_to_list firmware)

abbrev pub system_part : SystemPart → Part
system_part system = each system_kind 0x0100 1 system_body (system ∷ [])

abbrev pub chassis_part : Option ChassisPart → Part
chassis_part chassis = each chassis_kind 0x0300 1 chassis_body (option_to_list chassis)

abbrev pub processor_part : List Socket → Part
processor_part sockets = each processor_kind 0x0400 256 processor_body sockets

abbrev pub slot_part : List SlotPart → Part
slot_part slots = each slot_kind 0x0900 64 slot_body slots

abbrev pub oem_strings_part : List (List ℕ) → Part
oem_strings_part texts = each oem_strings_kind 0x0E00 1 OemStrings (if_some texts)

abbrev pub array_part : List Dimm → Part
array_part dimms = each array_kind array_handle 1 array_body (if_some dimms)

abbrev pub device_part : List Dimm → Part
device_part dimms = each device_kind 0x1100 256 device_body dimms

abbrev pub mapped_part : List MemRange → Part
mapped_part ranges = each mapped_kind 0x1300 64 mapped_body ranges

abbrev pub boot_part : Option Firmware → Part
boot_part firmware = each boot_kind 0x2000 1 boot_body (option_to_list firmware)

-- those of a machine, one part after the other
abbrev pub told_parts : Machine → List Part
told_parts m =
    bios_part m.firmware ∷ system_part m.system ∷ chassis_part m.chassis ∷ processor_part m.sockets ∷ slot_part m.slots
    ∷ oem_strings_part m.oem_strings ∷ array_part m.dimms ∷ device_part m.dimms ∷ mapped_part m.ranges ∷ boot_part m.firmware ∷ []

-- the end, which is last
abbrev pub end_part : Part
end_part = record { kind = end_kind; first = 0x7F00; most = 1; bodies = End ∷ [] }

abbrev pub parts_of : Machine → List Part
parts_of m = told_parts m ++ end_part ∷ []

abbrev pub structures_of : Machine → List Structure
structures_of m = flat_map structures_in (parts_of m)
