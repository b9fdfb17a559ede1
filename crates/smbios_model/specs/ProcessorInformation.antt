-- Processor Information, type 4 (DMTF DSP0134, version 3.0.0, 7.5).
use Rattle.std.specs.Prelude.{ℕ, List, [], ◌∷◌, min}
use Rattle.vt_layout.specs.declared.value.Value.{Value}
use Rattle.vt_layout.specs.Values.{value_at, byte_of, word_of, qword_of, text_of}
use Rattle.vt_layout.specs.Fields.{Field, Text, byte, word, qword}
use Rattle.machine_desc.specs.declared.smbios_parts.Socket.{Socket}
use Rattle.smbios_model.specs.declared.processor_information.ProcessorInfo.{ProcessorInfo}
use Rattle.smbios_model.specs.declared.smbios.Body.TheVariants.{Processor}
use Rattle.smbios_model.specs.StructureKinds.{StructureKind, StructureLayout, kind_with, layout_with}

-- what it says in the rows of its area behind the structure's header
abbrev pub processor_fields : ProcessorInfo → List Field
processor_fields i =
    Text i.designation ∷ byte i.kind ∷ byte i.family ∷ Text i.manufacturer ∷ qword i.id ∷ Text i.version ∷ byte i.voltage ∷ word i.clock
    ∷ word i.max_speed ∷ word i.speed ∷ byte i.status ∷ byte i.upgrade ∷ word i.l1 ∷ word i.l2 ∷ word i.l3 ∷ Text i.serial ∷ Text i.asset
    ∷ Text i.part ∷ byte i.cores ∷ byte i.enabled ∷ byte i.threads ∷ word i.characteristics ∷ word i.family2 ∷ word i.cores2 ∷ word i.enabled2
    ∷ word i.threads2 ∷ []

-- the record of the values of these rows
abbrev pub processor_in : List Value → ProcessorInfo
processor_in values = record {
  designation = text_of (value_at 0 values);
  kind = byte_of (value_at 1 values);
  family = byte_of (value_at 2 values);
  manufacturer = text_of (value_at 3 values);
  id = qword_of (value_at 4 values);
  version = text_of (value_at 5 values);
  voltage = byte_of (value_at 6 values);
  clock = word_of (value_at 7 values);
  max_speed = word_of (value_at 8 values);
  speed = word_of (value_at 9 values);
  status = byte_of (value_at 10 values);
  upgrade = byte_of (value_at 11 values);
  l1 = word_of (value_at 12 values);
  l2 = word_of (value_at 13 values);
  l3 = word_of (value_at 14 values);
  serial = text_of (value_at 15 values);
  asset = text_of (value_at 16 values);
  part = text_of (value_at 17 values);
  cores = byte_of (value_at 18 values);
  enabled = byte_of (value_at 19 values);
  threads = byte_of (value_at 20 values);
  characteristics = word_of (value_at 21 values);
  family2 = word_of (value_at 22 values);
  cores2 = word_of (value_at 23 values);
  enabled2 = word_of (value_at 24 values);
  threads2 = word_of (value_at 25 values);
}

abbrev pub processor_kind : StructureKind
processor_kind = kind_with 4 processor_fields processor_in Processor

abbrev pub processor_layout : ProcessorInfo → StructureLayout
processor_layout i = layout_with processor_kind (processor_fields i)

-- the byte of a count, which stands whole in the word; from 255 on the byte is 0xFF (7.5.6 to 7.5.8)
abbrev pub count_byte : ℕ → ℕ
count_byte count = min count 0xFF

-- what a machine's socket is written as: a central processor of the family "other", without caches, enabled with all its cores
abbrev pub processor_of : Socket → ProcessorInfo
processor_of s = record {
  designation = s.designation;
  kind = 3;
  family = 1;
  manufacturer = s.manufacturer;
  id = 0;
  version = s.version;
  voltage = 0;
  clock = 0;
  max_speed = s.mhz;
  speed = s.mhz;
  status = 0x41;
  upgrade = 1;
  l1 = 0xFFFF;
  l2 = 0xFFFF;
  l3 = 0xFFFF;
  serial = s.serial;
  asset = s.asset;
  part = s.part;
  cores = count_byte s.cores;
  enabled = count_byte s.cores;
  threads = count_byte s.threads;
  characteristics = 2;
  family2 = 1;
  cores2 = s.cores;
  enabled2 = s.cores;
  threads2 = s.threads;
}

-- The way back: the socket that Processor Information tells. The words tell the counts whole.
abbrev pub socket_in : ProcessorInfo → Socket
socket_in i = record {
  designation = i.designation;
  manufacturer = i.manufacturer;
  version = i.version;
  serial = i.serial;
  asset = i.asset;
  part = i.part;
  cores = i.cores2;
  threads = i.threads2;
  mhz = i.max_speed;
}
