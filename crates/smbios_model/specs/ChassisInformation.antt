-- System Enclosure or Chassis, type 3 (DMTF DSP0134, version 3.0.0, 7.4).
use Rattle.std.specs.Prelude.{List, [], ◌∷◌}
use Rattle.vt_layout.specs.declared.value.Value.{Value}
use Rattle.vt_layout.specs.Values.{value_at, byte_of, dword_of, text_of}
use Rattle.vt_layout.specs.Fields.{Field, Text, byte, dword}
use Rattle.machine_desc.specs.declared.smbios_parts.Chassis.{Chassis}
use Rattle.smbios_model.specs.declared.chassis_information.ChassisInfo.{ChassisInfo}
use Rattle.smbios_model.specs.declared.smbios.Body.TheVariants.{Chassis as ChassisVariant}
use Rattle.smbios_model.specs.StructureKinds.{StructureKind, StructureLayout, kind_with, layout_with}

-- what it says in the rows of its area behind the structure's header
abbrev pub chassis_fields : ChassisInfo → List Field
chassis_fields i =
    Text i.manufacturer ∷ byte i.kind ∷ Text i.version ∷ Text i.serial ∷ Text i.asset ∷ byte i.boot ∷ byte i.supply ∷ byte i.thermal ∷ byte i.security
    ∷ dword i.oem ∷ byte i.height ∷ byte i.cords ∷ byte i.elements ∷ byte i.element_length ∷ Text i.sku ∷ []

-- the record of the values of these rows
abbrev pub chassis_in : List Value → ChassisInfo
chassis_in values = record {
  manufacturer = text_of (value_at 0 values);
  kind = byte_of (value_at 1 values);
  version = text_of (value_at 2 values);
  serial = text_of (value_at 3 values);
  asset = text_of (value_at 4 values);
  boot = byte_of (value_at 5 values);
  supply = byte_of (value_at 6 values);
  thermal = byte_of (value_at 7 values);
  security = byte_of (value_at 8 values);
  oem = dword_of (value_at 9 values);
  height = byte_of (value_at 10 values);
  cords = byte_of (value_at 11 values);
  elements = byte_of (value_at 12 values);
  element_length = byte_of (value_at 13 values);
  sku = text_of (value_at 14 values);
}

abbrev pub chassis_kind : StructureKind
chassis_kind = kind_with 3 chassis_fields chassis_in ChassisVariant

abbrev pub chassis_layout : ChassisInfo → StructureLayout
chassis_layout i = layout_with chassis_kind (chassis_fields i)

-- what a machine's chassis is written as: its states are safe, its security is unknown, and it lists no elements
abbrev pub chassis_of : Chassis → ChassisInfo
chassis_of c = record {
  manufacturer = c.manufacturer;
  kind = c.kind;
  version = c.version;
  serial = c.serial;
  asset = c.asset;
  boot = 3;
  supply = 3;
  thermal = 3;
  security = 2;
  oem = 0;
  height = 0;
  cords = 0;
  elements = 0;
  element_length = 0;
  sku = c.sku;
}

-- the way back: the chassis that an enclosure tells
abbrev pub chassis_part_in : ChassisInfo → Chassis
chassis_part_in i =
    record { manufacturer = i.manufacturer; version = i.version; serial = i.serial; asset = i.asset; sku = i.sku; kind = i.kind }
