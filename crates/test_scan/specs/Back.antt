-- Records of which few fields matter, for what is got back from them.
use Rattle.std.specs.Prelude.{ℕ, []}
use Rattle.machine_desc.specs.declared.smbios_parts.MemRange.{MemRange}
use Rattle.smbios_model.specs.declared.mapped_address.MappedInfo.{MappedInfo}
use Rattle.smbios_model.specs.declared.slot_information.SlotInfo.{SlotInfo}

abbrev pub mapped : ℕ → ℕ → ℕ → ℕ → MappedInfo
mapped start end ext_start ext_end =
    record { start = start; end = end; array = 0x1000; width = 1; ext_start = ext_start; ext_end = ext_end }

abbrev pub range : ℕ → ℕ → MemRange
range base_mib size_mib = record { base_mib = base_mib; size_mib = size_mib; node = 0 }

abbrev pub slot : ℕ → ℕ → SlotInfo
slot usage device_function = record {
  designation = [];
  kind = 6;
  width = 5;
  usage = usage;
  length = 1;
  id = 2;
  char1 = 1;
  char2 = 0;
  segment = 0;
  bus = 3;
  device_function = device_function;
}
