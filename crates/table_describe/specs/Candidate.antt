-- The candidate of an inventory: the one machine that the inventory may be of. Each key is read from the place where it is written first; a
-- part without its place is absent, and a number that doesn't fit its key is 0.
use Rattle.std.specs.Prelude.{ℕ, ◌/◌, true, false, List, [], length, drop, map, Option, Some, None, option_map}
use Rattle.std.specs.Option.{option_map_or}
use Rattle.uuid.specs.Parts.{swap_fields}
use Rattle.vt_bytes.specs.Numbers.{be}
use Rattle.aml_terms.specs.Trees.{view}
use Rattle.machine_desc.specs.declared.machine.Machine.{Machine}
use Rattle.machine_desc.specs.declared.smbios_parts.MemRange.{MemRange}
use Rattle.acpi_model.specs.declared.acpi.AcpiTables.{AcpiTables}
use Rattle.acpi_model.specs.declared.dsdt.Dsdt.{Dsdt}
use Rattle.acpi_model.specs.declared.dsdt.Dsdt.TheVariants.{Terms, Foreign}
use Rattle.smbios_model.specs.declared.smbios.SmbiosTable.{SmbiosTable}
use Rattle.smbios_model.specs.declared.smbios.Structure.{Structure}
use Rattle.smbios_told.specs.declared.parts.SmbiosParts.{SmbiosParts}
use Rattle.smbios_told.specs.Parts.{parts_in as smbios_parts_in}
use Rattle.dsdt_devices.specs.declared.devices.DsdtDevices.{DsdtDevices}
use Rattle.dsdt_devices.specs.Told.{devices_in}
use Rattle.acpi_told.specs.declared.parts.AcpiParts.{AcpiParts}
use Rattle.acpi_told.specs.Nodes.{on_told_nodes, node_of_range, range_on}
use Rattle.acpi_told.specs.Parts.{power_told, bridge_told, affinities_in, parts_in as acpi_parts_in}
use Rattle.inventory_items.specs.Items.{fadt_in, dsdt_in, mcfg_in}
use Rattle.table_model.specs.declared.inventory.Inventory.{Inventory}

-- the structures of an anchor's table, and none without one
abbrev pub structures_of : Option SmbiosTable → List Structure
structures_of table = option_map_or (λ (t : SmbiosTable). t.structures) table []

abbrev pub smbios_parts : Inventory → SmbiosParts
smbios_parts i = smbios_parts_in (structures_of i.smbios)

abbrev pub acpi_parts : Inventory → AcpiParts
acpi_parts i = acpi_parts_in i.acpi

-- The devices that a DSDT tells. Where there is no DSDT, there are a clock and a keyboard; one whose definition block spells no terms tells
-- no device.
abbrev pub devices_told : Option Dsdt → DsdtDevices
devices_told None = record { bridge = None; uarts = []; rtc = true; keyboard = true }
devices_told (Some (Foreign head length)) = record { bridge = None; uarts = []; rtc = false; keyboard = false }
devices_told (Some (Terms head terms)) = devices_in (map view terms)

abbrev pub devices : Inventory → DsdtDevices
devices i = devices_told (dsdt_in i)

-- Ranges are on the nodes that the entries of the SRAT tell behind those of so many processors.
abbrev pub ranges_on_nodes : ℕ → Option AcpiTables → List MemRange → List MemRange
ranges_on_nodes cpus tables ranges = on_told_nodes node_of_range range_on (drop cpus (affinities_in tables)) ranges

-- the number of an id's sixteen bytes, whose first three fields are little-endian
abbrev pub id_number : List ℕ → ℕ
id_number bytes = be (swap_fields bytes)

-- A machine of the parts that structures, tables and devices tell, with the keys that the inventory tells itself.
abbrev pub candidate_with : Inventory → SmbiosParts → AcpiParts → DsdtDevices → Machine
candidate_with i smbios acpi told = record {
  top_mib = i.top / 0x100000;
  oem_strings = smbios.oem_strings;
  generation = option_map id_number i.generation;
  system = smbios.system;
  firmware = smbios.firmware;
  chassis = smbios.chassis;
  sockets = smbios.sockets;
  dimms = smbios.dimms;
  ranges = smbios.ranges;
  slots = smbios.slots;
  acpi = acpi.acpi;
  power = option_map (power_told told.rtc told.keyboard) (fadt_in i);
  hpet = acpi.hpet;
  apic = acpi.controllers.apic;
  cpus = acpi.controllers.cpus;
  io_apics = acpi.controllers.io_apics;
  overrides = acpi.controllers.overrides;
  nmis = acpi.controllers.nmis;
  numa = acpi.numa;
  bridge = option_map (bridge_told (mcfg_in i)) told.bridge;
  uarts = told.uarts;
}

-- what structures tell, with the nodes of ranges
abbrev pub with_nodes : Inventory → SmbiosParts → SmbiosParts
with_nodes i parts = record parts { ranges = ranges_on_nodes (length (acpi_parts i).controllers.cpus) i.acpi parts.ranges }

unfoldable pub candidate : Inventory → Machine
candidate i = candidate_with i (with_nodes i (smbios_parts i)) (acpi_parts i) (devices i)
