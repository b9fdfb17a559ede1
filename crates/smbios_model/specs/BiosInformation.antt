-- BIOS Information, type 0 (DMTF DSP0134, version 3.0.0, 7.1).
use Rattle.std.specs.Prelude.{List, [], ◌∷◌}
use Rattle.vt_layout.specs.declared.value.Value.{Value}
use Rattle.vt_layout.specs.Values.{value_at, byte_of, word_of, qword_of, text_of}
use Rattle.vt_layout.specs.Fields.{Field, Text, byte, word, qword}
use Rattle.machine_desc.specs.declared.smbios_parts.Firmware.{Firmware}
use Rattle.smbios_model.specs.declared.bios_information.BiosInfo.{BiosInfo}
use Rattle.smbios_model.specs.declared.smbios.Body.TheVariants.{Bios}
use Rattle.smbios_model.specs.StructureKinds.{StructureKind, StructureLayout, kind_with, layout_with}

-- what it says in the rows of its area behind the structure's header
abbrev pub bios_fields : BiosInfo → List Field
bios_fields i =
    Text i.vendor ∷ Text i.version ∷ word i.segment ∷ Text i.date ∷ byte i.rom_size ∷ qword i.characteristics ∷ byte i.ext1 ∷ byte i.ext2
    ∷ byte i.major ∷ byte i.minor ∷ byte i.ec_major ∷ byte i.ec_minor ∷ []

-- the record of the values of these rows
abbrev pub bios_in : List Value → BiosInfo
bios_in values = record {
  vendor = text_of (value_at 0 values);
  version = text_of (value_at 1 values);
  segment = word_of (value_at 2 values);
  date = text_of (value_at 3 values);
  rom_size = byte_of (value_at 4 values);
  characteristics = qword_of (value_at 5 values);
  ext1 = byte_of (value_at 6 values);
  ext2 = byte_of (value_at 7 values);
  major = byte_of (value_at 8 values);
  minor = byte_of (value_at 9 values);
  ec_major = byte_of (value_at 10 values);
  ec_minor = byte_of (value_at 11 values);
}

abbrev pub bios_kind : StructureKind
bios_kind = kind_with 0 bios_fields bios_in Bios

abbrev pub bios_layout : BiosInfo → StructureLayout
bios_layout i = layout_with bios_kind (bios_fields i)

-- what a machine's firmware is written as: in the segment 0xE800, and in a virtual machine
abbrev pub bios_of : Firmware → BiosInfo
bios_of f = record {
  vendor = f.vendor;
  version = f.version;
  segment = 0xE800;
  date = f.date;
  rom_size = 0;
  characteristics = 8;
  ext1 = 0;
  ext2 = 0x10;
  major = f.major;
  minor = f.minor;
  ec_major = 0xFF;
  ec_minor = 0xFF;
}

-- the way back: the firmware that BIOS Information tells
abbrev pub firmware_in : BiosInfo → Firmware
firmware_in i = record { vendor = i.vendor; version = i.version; date = i.date; major = i.major; minor = i.minor }
