-- The kinds of structures that are read as records, and what an area and strings are read as.
use Rattle.std.specs.Prelude.{◌≡◌, ℕ, ◌+◌, List, length, take, Some, Result, Ok, Err, nat_lt, if◌then◌else◌}
use Rattle.vt_bytes.specs.Numbers.{le}
use Rattle.vt_layout.specs.declared.record_reader.RecordFault.{RecordFault}
use Rattle.vt_layout.specs.declared.record_reader.RecordFault.TheVariants.{TooShort, NoSuchString, OutOfMemory}
use Rattle.vt_layout.specs.Strings.{IsFirstMissing}
use Rattle.vt_layout.specs.Reading.{rows_in}
use Rattle.vt_layout.specs.Records.{record_in}
use Rattle.smbios_model.specs.declared.smbios.Body.{Body}
use Rattle.smbios_model.specs.declared.smbios.Body.TheVariants as bodies
use Rattle.smbios_model.specs.StructureKinds.{StructureKind}
use Rattle.smbios_model.specs.Structures.{IsTyped}
use Rattle.smbios_model.specs.BiosInformation.{bios_fields, bios_in, bios_kind}
use Rattle.smbios_model.specs.SystemInformation.{system_fields, system_in, system_kind}
use Rattle.smbios_model.specs.ChassisInformation.{chassis_fields, chassis_in, chassis_kind}
use Rattle.smbios_model.specs.ProcessorInformation.{processor_fields, processor_in, processor_kind}
use Rattle.smbios_model.specs.SlotInformation.{slot_fields, slot_in, slot_kind}
use Rattle.smbios_model.specs.OemStrings.{oem_strings_kind}
use Rattle.smbios_model.specs.MemoryArray.{array_fields, array_in, array_kind}
use Rattle.smbios_model.specs.MemoryDevice.{device_fields, device_in, device_kind}
use Rattle.smbios_model.specs.MappedAddress.{mapped_fields, mapped_in, mapped_kind}
use Rattle.smbios_model.specs.BootInformation.{boot_fields, boot_in, boot_kind}
use Rattle.smbios_model.specs.Structures.{end_kind, kind_for, IsBody}
use Rattle.smbios_decode.specs.declared.kind.Kind.{Kind}
use Rattle.smbios_decode.specs.declared.kind.Kind.TheVariants.{Bios, System, Chassis, Processor, Slot, OemStrings, Array, Device, Mapped, Boot, End}

-- the kind that a record is of
abbrev pub kind_of : Kind → StructureKind
kind_of Bios = bios_kind
kind_of System = system_kind
kind_of Chassis = chassis_kind
kind_of Processor = processor_kind
kind_of Slot = slot_kind
kind_of OemStrings = oem_strings_kind
kind_of Array = array_kind
kind_of Device = device_kind
kind_of Mapped = mapped_kind
kind_of Boot = boot_kind
kind_of End = end_kind

-- The numbers of strings in an area of a kind.
abbrev pub named_in : StructureKind → List ℕ → List ℕ
named_in kind area = kind.named (rows_in kind.shape area)

-- a record as a body
abbrev pub as_body : {Info : Type 0} → (Info → Body) → Result Info RecordFault → Result Body RecordFault
as_body body_of (Err fault) = Err fault
as_body body_of (Ok info) = Ok (body_of info)

-- OEM Strings: as many of the strings as the area's first byte tells
abbrev pub counted_in : ℕ → List (List ℕ) → Result Body RecordFault
counted_in count strings =
    if nat_lt (length strings) count then Err (NoSuchString (length strings + 1)) else Ok (bodies.OemStrings (take count strings))

-- what an area and strings of a kind say, where the area is as long as the kind's rows
abbrev pub body_in : Kind → List ℕ → List (List ℕ) → Result Body RecordFault
body_in Bios area strings = as_body bodies.Bios (record_in bios_fields bios_in area strings)
body_in System area strings = as_body bodies.System (record_in system_fields system_in area strings)
body_in Chassis area strings = as_body bodies.Chassis (record_in chassis_fields chassis_in area strings)
body_in Processor area strings = as_body bodies.Processor (record_in processor_fields processor_in area strings)
body_in Slot area strings = as_body bodies.Slot (record_in slot_fields slot_in area strings)
body_in OemStrings area strings = counted_in (le (take 1 area)) strings
body_in Array area strings = as_body bodies.Array (record_in array_fields array_in area strings)
body_in Device area strings = as_body bodies.Device (record_in device_fields device_in area strings)
body_in Mapped area strings = as_body bodies.Mapped (record_in mapped_fields mapped_in area strings)
body_in Boot area strings = as_body bodies.Boot (record_in boot_fields boot_in area strings)
body_in End area strings = Ok bodies.End

-- what an area and strings of a kind are read as, unless memory runs out
abbrev pub IsTypedOr : StructureKind → List ℕ → List (List ℕ) → Result Body RecordFault → Type 0
IsTypedOr kind area strings (Ok body) = IsTyped kind area strings body
IsTypedOr kind area strings (Err (NoSuchString number)) = IsFirstMissing strings (named_in kind area) number
IsTypedOr kind area strings (Err TooShort) = ⊥
IsTypedOr kind area strings (Err OutOfMemory) = Unit {0}

-- what an area and strings of a type are read as, unless memory runs out
abbrev pub IsBodyOr : ℕ → List ℕ → List (List ℕ) → Result Body RecordFault → Type 0
IsBodyOr number area strings (Ok body) = IsBody number area strings body
IsBodyOr number area strings (Err (NoSuchString missing)) =
    (kind : StructureKind) × (kind_for number (length area) ≡ Some kind) × IsFirstMissing strings (named_in kind area) missing
IsBodyOr number area strings (Err TooShort) = ⊥
IsBodyOr number area strings (Err OutOfMemory) = Unit {0}
