-- System Slots, type 9 (DMTF DSP0134, version 3.0.0, 7.10).
use Rattle.std.specs.Prelude.{◌+◌, ◌*◌, ◌/◌, ◌%◌, List, [], ◌∷◌, ◌==◌, if◌then◌else◌}
use Rattle.vt_layout.specs.declared.value.Value.{Value}
use Rattle.vt_layout.specs.Values.{value_at, byte_of, word_of, text_of}
use Rattle.vt_layout.specs.Fields.{Field, Text, byte, word}
use Rattle.machine_desc.specs.declared.smbios_parts.Slot.{Slot}
use Rattle.smbios_model.specs.declared.slot_information.SlotInfo.{SlotInfo}
use Rattle.smbios_model.specs.declared.smbios.Body.TheVariants.{Slot as SlotVariant}
use Rattle.smbios_model.specs.StructureKinds.{StructureKind, StructureLayout, kind_with, layout_with}

-- what it says in the rows of its area behind the structure's header
abbrev pub slot_fields : SlotInfo → List Field
slot_fields i =
    Text i.designation ∷ byte i.kind ∷ byte i.width ∷ byte i.usage ∷ byte i.length ∷ word i.id ∷ byte i.char1 ∷ byte i.char2 ∷ word i.segment
    ∷ byte i.bus ∷ byte i.device_function ∷ []

-- the record of the values of these rows
abbrev pub slot_in : List Value → SlotInfo
slot_in values = record {
  designation = text_of (value_at 0 values);
  kind = byte_of (value_at 1 values);
  width = byte_of (value_at 2 values);
  usage = byte_of (value_at 3 values);
  length = byte_of (value_at 4 values);
  id = word_of (value_at 5 values);
  char1 = byte_of (value_at 6 values);
  char2 = byte_of (value_at 7 values);
  segment = word_of (value_at 8 values);
  bus = byte_of (value_at 9 values);
  device_function = byte_of (value_at 10 values);
}

abbrev pub slot_kind : StructureKind
slot_kind = kind_with 9 slot_fields slot_in SlotVariant

abbrev pub slot_layout : SlotInfo → StructureLayout
slot_layout i = layout_with slot_kind (slot_fields i)

-- what a machine's slot is written as: nothing else is known of it
abbrev pub slot_of : Slot → SlotInfo
slot_of s = record {
  designation = s.designation;
  kind = s.kind;
  width = s.width;
  usage = if s.used then 4 else 3;
  length = 1;
  id = s.id;
  char1 = 1;
  char2 = 0;
  segment = 0;
  bus = s.bus;
  device_function = s.device * 8 + s.function;
}

-- The way back: the slot that System Slots tells. It is used exactly where it says that it is in use.
abbrev pub slot_part_in : SlotInfo → Slot
slot_part_in i = record {
  designation = i.designation;
  kind = i.kind;
  width = i.width;
  used = i.usage == 4;
  id = i.id;
  bus = i.bus;
  device = i.device_function / 8;
  function = i.device_function % 8;
}
