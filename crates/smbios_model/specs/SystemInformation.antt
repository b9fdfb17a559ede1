-- System Information, type 1 (DMTF DSP0134, version 3.0.0, 7.2).
use Rattle.std.specs.Prelude.{ℕ, List, [], ◌∷◌, Option, Some, None, replicate, ◌==◌, if◌then◌else◌}
use Rattle.std.specs.Option.{option_map_or}
use Rattle.uuid.specs.Parts.{swap_fields}
use Rattle.vt_bytes.specs.Numbers.{be}
use Rattle.vt_layout.specs.declared.value.Value.{Value}
use Rattle.vt_layout.specs.Values.{value_at, byte_of, sixteen_of, text_of}
use Rattle.vt_layout.specs.Fields.{Field, Text, byte, sixteen}
use Rattle.machine_desc.specs.declared.machine.System.{System}
use Rattle.machine_desc.specs.Uuids.{uuid_bytes}
use Rattle.smbios_model.specs.declared.system_information.SystemInfo.{SystemInfo}
use Rattle.smbios_model.specs.declared.smbios.Body.TheVariants.{System as SystemVariant}
use Rattle.smbios_model.specs.StructureKinds.{StructureKind, StructureLayout, kind_with, layout_with}

-- what it says in the rows of its area behind the structure's header
abbrev pub system_fields : SystemInfo → List Field
system_fields i =
    Text i.manufacturer ∷ Text i.product ∷ Text i.version ∷ Text i.serial ∷ sixteen i.uuid ∷ byte i.wake_up ∷ Text i.sku ∷ Text i.family ∷ []

-- the record of the values of these rows
abbrev pub system_in : List Value → SystemInfo
system_in values = record {
  manufacturer = text_of (value_at 0 values);
  product = text_of (value_at 1 values);
  version = text_of (value_at 2 values);
  serial = text_of (value_at 3 values);
  uuid = sixteen_of (value_at 4 values);
  wake_up = byte_of (value_at 5 values);
  sku = text_of (value_at 6 values);
  family = text_of (value_at 7 values);
}

abbrev pub system_kind : StructureKind
system_kind = kind_with 1 system_fields system_in SystemVariant

abbrev pub system_layout : SystemInfo → StructureLayout
system_layout i = layout_with system_kind (system_fields i)

-- the sixteen bytes of a UUID: the first three fields are little-endian, and sixteen zeros mean none (7.2.1)
abbrev pub uuid_field : Option ℕ → List ℕ
uuid_field uuid = option_map_or uuid_bytes uuid (replicate 16 0)

-- a machine's system as System Information, woken up by its power switch
abbrev pub system_of : System → SystemInfo
system_of s = record {
  manufacturer = s.manufacturer;
  product = s.product;
  version = s.version;
  serial = s.serial;
  uuid = uuid_field s.uuid;
  wake_up = 6;
  sku = s.sku;
  family = s.family;
}

-- The way back: the UUID of sixteen bytes, whose first three fields are turned to stand high byte first. Sixteen zeros, the bytes of the
-- number 0, mean none.
abbrev pub uuid_in : List ℕ → Option ℕ
uuid_in field = if be (swap_fields field) == 0 then None else Some (be (swap_fields field))

-- the system that System Information tells
abbrev pub system_part_in : SystemInfo → System
system_part_in i = record {
  manufacturer = i.manufacturer;
  product = i.product;
  version = i.version;
  serial = i.serial;
  sku = i.sku;
  family = i.family;
  uuid = uuid_in i.uuid;
}
