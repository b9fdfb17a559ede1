-- Memory Device, type 17 (DMTF DSP0134, version 3.0.0, 7.18).
use Rattle.std.specs.Prelude.{ℕ, List, [], ◌∷◌, nat_lt, ◌==◌, if◌then◌else◌}
use Rattle.vt_layout.specs.declared.value.Value.{Value}
use Rattle.vt_layout.specs.Values.{value_at, byte_of, word_of, dword_of, text_of}
use Rattle.vt_layout.specs.Fields.{Field, Text, byte, word, dword}
use Rattle.machine_desc.specs.declared.smbios_parts.Dimm.{Dimm}
use Rattle.smbios_model.specs.declared.memory_device.DeviceInfo.{DeviceInfo}
use Rattle.smbios_model.specs.declared.smbios.Body.TheVariants.{Device}
use Rattle.smbios_model.specs.MemoryArray.{array_handle}
use Rattle.smbios_model.specs.StructureKinds.{StructureKind, StructureLayout, kind_with, layout_with}

-- what it says in the rows of its area behind the structure's header
abbrev pub device_fields : DeviceInfo → List Field
device_fields i =
    word i.array ∷ word i.error ∷ word i.total_width ∷ word i.data_width ∷ word i.size ∷ byte i.form ∷ byte i.set ∷ Text i.locator ∷ Text i.bank
    ∷ byte i.kind ∷ word i.detail ∷ word i.speed ∷ Text i.manufacturer ∷ Text i.serial ∷ Text i.asset ∷ Text i.part ∷ byte i.attributes
    ∷ dword i.extended ∷ word i.configured ∷ word i.min_voltage ∷ word i.max_voltage ∷ word i.voltage ∷ []

-- the record of the values of these rows
abbrev pub device_in : List Value → DeviceInfo
device_in values = record {
  array = word_of (value_at 0 values);
  error = word_of (value_at 1 values);
  total_width = word_of (value_at 2 values);
  data_width = word_of (value_at 3 values);
  size = word_of (value_at 4 values);
  form = byte_of (value_at 5 values);
  set = byte_of (value_at 6 values);
  locator = text_of (value_at 7 values);
  bank = text_of (value_at 8 values);
  kind = byte_of (value_at 9 values);
  detail = word_of (value_at 10 values);
  speed = word_of (value_at 11 values);
  manufacturer = text_of (value_at 12 values);
  serial = text_of (value_at 13 values);
  asset = text_of (value_at 14 values);
  part = text_of (value_at 15 values);
  attributes = byte_of (value_at 16 values);
  extended = dword_of (value_at 17 values);
  configured = word_of (value_at 18 values);
  min_voltage = word_of (value_at 19 values);
  max_voltage = word_of (value_at 20 values);
  voltage = word_of (value_at 21 values);
}

abbrev pub device_kind : StructureKind
device_kind = kind_with 17 device_fields device_in Device

abbrev pub device_layout : DeviceInfo → StructureLayout
device_layout i = layout_with device_kind (device_fields i)

-- A size in MiB, which the second field tells from 32,767 on (7.18.4).
abbrev pub size_field : ℕ → ℕ
size_field mib = if nat_lt mib 0x7FFF then mib else 0x7FFF

abbrev pub extended_field : ℕ → ℕ
extended_field mib = if nat_lt mib 0x7FFF then 0 else mib

-- what a machine's module is written as: a DIMM of RAM in the machine's array, set to its speed
abbrev pub device_of : Dimm → DeviceInfo
device_of d = record {
  array = array_handle;
  error = 0xFFFE;
  total_width = 0xFFFF;
  data_width = 0xFFFF;
  size = size_field d.size_mib;
  form = 9;
  set = 0;
  locator = d.locator;
  bank = d.bank;
  kind = 7;
  detail = 2;
  speed = d.speed;
  manufacturer = d.manufacturer;
  serial = d.serial;
  asset = d.asset;
  part = d.part;
  attributes = 0;
  extended = extended_field d.size_mib;
  configured = d.speed;
  min_voltage = 0;
  max_voltage = 0;
  voltage = 0;
}

-- the way back: the size in MiB, which the second field tells where the first one says so
abbrev pub mib_in : ℕ → ℕ → ℕ
mib_in size extended = if size == 0x7FFF then extended else size

-- the module that a Memory Device tells
abbrev pub dimm_in : DeviceInfo → Dimm
dimm_in i = record {
  locator = i.locator;
  bank = i.bank;
  manufacturer = i.manufacturer;
  serial = i.serial;
  asset = i.asset;
  part = i.part;
  size_mib = mib_in i.size i.extended;
  speed = i.speed;
}
