-- The parts of a machine that structures tell (DMTF DSP0134, version 3.0.0, chapter 7).
use Rattle.std.specs.Prelude.{List}
use Rattle.smbios_model.specs.declared.smbios.Structure.{Structure}
use Rattle.smbios_model.specs.ToldParts.{socket_told, dimm_told, range_told, slot_told, all_told}
use Rattle.smbios_model.specs.ToldParts.{oem_strings_in, the_system_in, the_firmware_in, the_chassis_in}
use Rattle.smbios_told.specs.declared.parts.SmbiosParts.{SmbiosParts}

abbrev pub parts_in : List Structure → SmbiosParts
parts_in structures = record {
  oem_strings = oem_strings_in structures;
  system = the_system_in structures;
  firmware = the_firmware_in structures;
  chassis = the_chassis_in structures;
  sockets = all_told socket_told structures;
  dimms = all_told dimm_told structures;
  ranges = all_told range_told structures;
  slots = all_told slot_told structures;
}
