-- A machine from the values of its description, by their positions. A value of another kind stands for nothing: no walk gives one.
use Rattle.std.specs.Prelude.{ℕ, zero, suc, List, [], ◌∷◌, length, Option, Some, None, ◌==◌, if◌then◌else◌}
use Rattle.desc_schema.specs.declared.value.Value.{Value}
use Rattle.desc_schema.specs.Taken.{first, rest, skip, value_at, text_of, number_to, number_if, flag_of, uuid_if, word_of, count_of}
use Rattle.desc_toml.specs.Keys.{system_keys, firmware_keys, chassis_keys, socket_keys, dimm_keys, range_keys, slot_keys, acpi_keys, power_keys, hpet_keys}
use Rattle.desc_toml.specs.Keys.{apic_keys, cpu_keys, io_apic_keys, override_keys, nmi_keys, window_keys, route_keys, uart_keys}
use Rattle.desc_toml.specs.declared.machine.Front.{Front}
use Rattle.desc_toml.specs.declared.machine.Arrays.{Arrays}
use Rattle.desc_toml.specs.declared.machine.Tables.{Tables}
use Rattle.desc_toml.specs.declared.machine.Entries.{Entries}
use Rattle.desc_toml.specs.declared.machine.AcpiParts.{AcpiParts}
use Rattle.desc_toml.specs.declared.machine.Devices.{Devices}
use Rattle.desc_toml.specs.declared.machine.Behind.{Behind}
use Rattle.desc_toml.specs.declared.machine.Rest.{Rest}
use Rattle.machine_desc.specs.declared.machine.Machine.{Machine}
use Rattle.machine_desc.specs.declared.machine.System.{System}
use Rattle.machine_desc.specs.declared.machine.Acpi.{Acpi}
use Rattle.machine_desc.specs.declared.machine.Hpet.{Hpet}
use Rattle.machine_desc.specs.declared.acpi_parts.Power.{Power}
use Rattle.machine_desc.specs.declared.acpi_parts.Apic.{Apic}
use Rattle.machine_desc.specs.declared.acpi_parts.Cpu.{Cpu}
use Rattle.machine_desc.specs.declared.acpi_parts.IoApic.{IoApic}
use Rattle.machine_desc.specs.declared.acpi_parts.Override.{Override}
use Rattle.machine_desc.specs.declared.acpi_parts.Nmi.{Nmi}
use Rattle.machine_desc.specs.declared.acpi_parts.Numa.{Numa}
use Rattle.machine_desc.specs.declared.device_parts.Bridge.{Bridge}
use Rattle.machine_desc.specs.declared.device_parts.Window.{Window}
use Rattle.machine_desc.specs.declared.device_parts.WindowKind.{WindowKind}
use Rattle.machine_desc.specs.declared.device_parts.WindowKind.TheVariants.{Io, Mem32, Mem64}
use Rattle.machine_desc.specs.declared.device_parts.Route.{Route}
use Rattle.machine_desc.specs.declared.device_parts.Uart.{Uart}
use Rattle.machine_desc.specs.declared.smbios_parts.Firmware.{Firmware}
use Rattle.machine_desc.specs.declared.smbios_parts.Chassis.{Chassis}
use Rattle.machine_desc.specs.declared.smbios_parts.Socket.{Socket}
use Rattle.machine_desc.specs.declared.smbios_parts.Dimm.{Dimm}
use Rattle.machine_desc.specs.declared.smbios_parts.MemRange.{MemRange}
use Rattle.machine_desc.specs.declared.smbios_parts.Slot.{Slot}

-- What is taken from the front of values: what is made of them, and those that follow. A part of a fixed number of values:
abbrev pub fixed : {V : Type 0} → (List Value → V) → ℕ → List Value → V × List Value
fixed make size values = (make values, skip size values)

-- a table that may be left out, and what follows it
unfoldable pub part_of : {V : Type 0} → (List Value → V × List Value) → List Value → Option V × List Value
part_of taken values =
    if count_of (first values) == 0 then (None, rest values) else (Some (taken (rest values)).0, (taken (rest values)).1)

-- so many parts, and what follows them
abbrev pub each_of : {V : Type 0} → (List Value → V × List Value) → ℕ → List Value → List V × List Value
each_of taken zero values = ([], values)
each_of taken (suc n) values =
    let others = each_of taken n (taken values).1 in
    ((taken values).0 ∷ others.0, others.1)

-- an array: how many parts it has, then each of them; and what follows it
unfoldable pub list_of : {V : Type 0} → (List Value → V × List Value) → List Value → List V × List Value
list_of taken values = each_of taken (count_of (first values)) (rest values)

-- a text alone
abbrev pub one_text : List Value → List ℕ
one_text values = text_of (first values)

-- a number of 8 bits alone
abbrev pub one_byte : List Value → ℕ
one_byte values = number_to 0xFF (first values)

-- the parts by their keys

abbrev pub system_of : List Value → System
system_of values = record {
  manufacturer = text_of (value_at 0 values);
  product = text_of (value_at 1 values);
  version = text_of (value_at 2 values);
  serial = text_of (value_at 3 values);
  sku = text_of (value_at 4 values);
  family = text_of (value_at 5 values);
  uuid = uuid_if (value_at 6 values);
}

abbrev pub firmware_of : List Value → Firmware
firmware_of values = record {
  vendor = text_of (value_at 0 values);
  version = text_of (value_at 1 values);
  date = text_of (value_at 2 values);
  major = number_to 0xFF (value_at 3 values);
  minor = number_to 0xFF (value_at 4 values);
}

abbrev pub chassis_of : List Value → Chassis
chassis_of values = record {
  manufacturer = text_of (value_at 0 values);
  version = text_of (value_at 1 values);
  serial = text_of (value_at 2 values);
  asset = text_of (value_at 3 values);
  sku = text_of (value_at 4 values);
  kind = number_to 0xFF (value_at 5 values);
}

abbrev pub socket_of : List Value → Socket
socket_of values = record {
  designation = text_of (value_at 0 values);
  manufacturer = text_of (value_at 1 values);
  version = text_of (value_at 2 values);
  serial = text_of (value_at 3 values);
  asset = text_of (value_at 4 values);
  part = text_of (value_at 5 values);
  cores = number_to 0xFFFF (value_at 6 values);
  threads = number_to 0xFFFF (value_at 7 values);
  mhz = number_to 0xFFFF (value_at 8 values);
}

abbrev pub dimm_of : List Value → Dimm
dimm_of values = record {
  locator = text_of (value_at 0 values);
  bank = text_of (value_at 1 values);
  manufacturer = text_of (value_at 2 values);
  serial = text_of (value_at 3 values);
  asset = text_of (value_at 4 values);
  part = text_of (value_at 5 values);
  size_mib = number_to 0xFFFFFFFF (value_at 6 values);
  speed = number_to 0xFFFF (value_at 7 values);
}

abbrev pub range_of : List Value → MemRange
range_of values = record {
  base_mib = number_to 0xFFFFFFFF (value_at 0 values);
  size_mib = number_to 0xFFFFFFFF (value_at 1 values);
  node = number_to 0xFF (value_at 2 values);
}

abbrev pub slot_of : List Value → Slot
slot_of values = record {
  designation = text_of (value_at 0 values);
  kind = number_to 0xFF (value_at 1 values);
  width = number_to 0xFF (value_at 2 values);
  used = flag_of (value_at 3 values);
  id = number_to 0xFFFF (value_at 4 values);
  bus = number_to 0xFF (value_at 5 values);
  device = number_to 0xFF (value_at 6 values);
  function = number_to 0xFF (value_at 7 values);
}

abbrev pub acpi_of : List Value → Acpi
acpi_of values = record { oem_id = text_of (value_at 0 values); oem_table_id = text_of (value_at 1 values) }

abbrev pub power_of : List Value → Power
power_of values = record {
  sci = number_to 0xFFFF (value_at 0 values);
  profile = number_to 0xFF (value_at 1 values);
  event = number_to 0xFFFF (value_at 2 values);
  control = number_to 0xFFFF (value_at 3 values);
  timer = number_to 0xFFFF (value_at 4 values);
  gpe = number_to 0xFFFF (value_at 5 values);
  gpe_len = number_to 0xFF (value_at 6 values);
  reset = number_to 0xFFFF (value_at 7 values);
  reset_value = number_to 0xFF (value_at 8 values);
  century = number_to 0xFF (value_at 9 values);
  rtc = flag_of (value_at 10 values);
  keyboard = flag_of (value_at 11 values);
}

abbrev pub hpet_of : List Value → Hpet
hpet_of values = record {
  address = number_to 0xFFFFFFFF (value_at 0 values);
  block_id = number_to 0xFFFFFFFF (value_at 1 values);
  number = number_to 0xFF (value_at 2 values);
  min_tick = number_to 0xFFFF (value_at 3 values);
}

abbrev pub apic_of : List Value → Apic
apic_of values = record { local = number_to 0xFFFFFFFF (value_at 0 values); legacy = flag_of (value_at 1 values) }

abbrev pub cpu_of : List Value → Cpu
cpu_of values = record {
  apic = number_to 0xFFFFFFFF (value_at 0 values);
  node = number_to 0xFF (value_at 1 values);
  enabled = flag_of (value_at 2 values);
}

abbrev pub io_apic_of : List Value → IoApic
io_apic_of values = record {
  id = number_to 0xFF (value_at 0 values);
  address = number_to 0xFFFFFFFF (value_at 1 values);
  gsi = number_to 0xFFFFFFFF (value_at 2 values);
}

abbrev pub override_of : List Value → Override
override_of values = record {
  irq = number_to 0xFF (value_at 0 values);
  gsi = number_to 0xFFFFFFFF (value_at 1 values);
  flags = number_to 0xFFFF (value_at 2 values);
}

abbrev pub nmi_of : List Value → Nmi
nmi_of values = record {
  cpu = number_if 0xFFFFFFFF (value_at 0 values);
  flags = number_to 0xFFFF (value_at 1 values);
  lint = number_to 0xFF (value_at 2 values);
}

-- the kind of a window by its word's place
abbrev pub kind_at : ℕ → WindowKind
kind_at place = if place == 0 then Io else if place == 1 then Mem32 else Mem64

abbrev pub window_of : List Value → Window
window_of values = record {
  kind = kind_at (word_of (value_at 0 values));
  base = number_to 0xFFFFFFFFFFFFFFFF (value_at 1 values);
  size = number_to 0xFFFFFFFFFFFFFFFF (value_at 2 values);
  prefetch = flag_of (value_at 3 values);
}

abbrev pub route_of : List Value → Route
route_of values = record {
  device = number_to 0xFF (value_at 0 values);
  pin = number_to 0xFF (value_at 1 values);
  gsi = number_to 0xFFFFFFFF (value_at 2 values);
}

abbrev pub uart_of : List Value → Uart
uart_of values = record { port = number_to 0xFFFF (value_at 0 values); irq = number_to 0xFF (value_at 1 values) }

-- each part with what follows it

abbrev pub text_taken : List Value → List ℕ × List Value
text_taken values = fixed one_text 1 values

abbrev pub system_taken : List Value → System × List Value
system_taken values = fixed system_of (length system_keys) values

abbrev pub firmware_taken : List Value → Firmware × List Value
firmware_taken values = fixed firmware_of (length firmware_keys) values

abbrev pub chassis_taken : List Value → Chassis × List Value
chassis_taken values = fixed chassis_of (length chassis_keys) values

abbrev pub socket_taken : List Value → Socket × List Value
socket_taken values = fixed socket_of (length socket_keys) values

abbrev pub dimm_taken : List Value → Dimm × List Value
dimm_taken values = fixed dimm_of (length dimm_keys) values

abbrev pub range_taken : List Value → MemRange × List Value
range_taken values = fixed range_of (length range_keys) values

abbrev pub slot_taken : List Value → Slot × List Value
slot_taken values = fixed slot_of (length slot_keys) values

abbrev pub acpi_taken : List Value → Acpi × List Value
acpi_taken values = fixed acpi_of (length acpi_keys) values

abbrev pub power_taken : List Value → Power × List Value
power_taken values = fixed power_of (length power_keys) values

abbrev pub hpet_taken : List Value → Hpet × List Value
hpet_taken values = fixed hpet_of (length hpet_keys) values

abbrev pub apic_taken : List Value → Apic × List Value
apic_taken values = fixed apic_of (length apic_keys) values

abbrev pub cpu_taken : List Value → Cpu × List Value
cpu_taken values = fixed cpu_of (length cpu_keys) values

abbrev pub io_apic_taken : List Value → IoApic × List Value
io_apic_taken values = fixed io_apic_of (length io_apic_keys) values

abbrev pub override_taken : List Value → Override × List Value
override_taken values = fixed override_of (length override_keys) values

abbrev pub nmi_taken : List Value → Nmi × List Value
nmi_taken values = fixed nmi_of (length nmi_keys) values

abbrev pub byte_taken : List Value → ℕ × List Value
byte_taken values = fixed one_byte 1 values

-- a number, and as many more as their count says
abbrev pub numa_taken : List Value → Numa × List Value
numa_taken values =
    let distance = list_of byte_taken (skip 1 values) in
    (record { nodes = number_to 0xFF (value_at 0 values); distance = distance.0 }, distance.1)

abbrev pub window_taken : List Value → Window × List Value
window_taken values = fixed window_of (length window_keys) values

abbrev pub route_taken : List Value → Route × List Value
route_taken values = fixed route_of (length route_keys) values

abbrev pub uart_taken : List Value → Uart × List Value
uart_taken values = fixed uart_of (length uart_keys) values

-- two numbers, the windows, and the routes
abbrev pub bridge_taken : List Value → Bridge × List Value
bridge_taken values =
    let windows = list_of window_taken (skip 2 values) in
    let routes = list_of route_taken windows.1 in (
      record {
        ecam = number_to 0xFFFFFFFFFFFFFFFF (value_at 0 values);
        last_bus = number_to 0xFF (value_at 1 values);
        windows = windows.0;
        routes = routes.0;
      },
      routes.1,
    )

-- The version, the top, the texts of the maker, the id of the generation, the one table of the system, and two tables that may be left out,
-- each behind what stands before it; and what follows them.
unfoldable pub front_of : List Value → Front × List Value
front_of values =
    let oem_strings = list_of text_taken (skip 2 values) in
    let system = system_taken (skip 2 oem_strings.1) in
    let firmware = part_of firmware_taken system.1 in
    let chassis = part_of chassis_taken firmware.1 in (
      record {
        top_mib = number_to 0xFFFFFFFF (value_at 1 values);
        oem_strings = oem_strings.0;
        generation = uuid_if (value_at 0 oem_strings.1);
        system = system.0;
        firmware = firmware.0;
        chassis = chassis.0;
      },
      chassis.1,
    )

-- the arrays, one after the other, and what follows them
unfoldable pub arrays_of : List Value → Arrays × List Value
arrays_of values =
    let sockets = list_of socket_taken values in
    let dimms = list_of dimm_taken sockets.1 in
    let ranges = list_of range_taken dimms.1 in
    let slots = list_of slot_taken ranges.1 in
    (record { sockets = sockets.0; dimms = dimms.0; ranges = ranges.0; slots = slots.0 }, slots.1)

-- the tables about ACPI, one after the other, each of which may be left out, and what follows them
unfoldable pub tables_of : List Value → Tables × List Value
tables_of values =
    let acpi = part_of acpi_taken values in
    let power = part_of power_taken acpi.1 in
    let hpet = part_of hpet_taken power.1 in
    let apic = part_of apic_taken hpet.1 in
    (record { acpi = acpi.0; power = power.0; hpet = hpet.0; apic = apic.0 }, apic.1)

-- the arrays about ACPI, one after the other, and the table that has one; and what follows them
unfoldable pub entries_of : List Value → Entries × List Value
entries_of values =
    let cpus = list_of cpu_taken values in
    let io_apics = list_of io_apic_taken cpus.1 in
    let overrides = list_of override_taken io_apics.1 in
    let nmis = list_of nmi_taken overrides.1 in
    let numa = part_of numa_taken nmis.1 in
    (record { cpus = cpus.0; io_apics = io_apics.0; overrides = overrides.0; nmis = nmis.0; numa = numa.0 }, numa.1)

-- these tables and arrays
unfoldable pub acpi_parts_of : List Value → AcpiParts × List Value
acpi_parts_of values =
    let tables = tables_of values in
    let entries = entries_of tables.1 in
    (record { tables = tables.0; entries = entries.0 }, entries.1)

-- the bridge, which may be left out, and the serial ports; and what follows them
unfoldable pub devices_of : List Value → Devices × List Value
devices_of values =
    let bridge = part_of bridge_taken values in
    let uarts = list_of uart_taken bridge.1 in
    (record { bridge = bridge.0; uarts = uarts.0 }, uarts.1)

-- what is about ACPI, and then the devices
unfoldable pub behind_of : List Value → Behind × List Value
behind_of values =
    let acpi_parts = acpi_parts_of values in
    let devices = devices_of acpi_parts.1 in
    (record { acpi_parts = acpi_parts.0; devices = devices.0 }, devices.1)

-- the arrays, and what stands behind them
unfoldable pub rest_of : List Value → Rest × List Value
rest_of values =
    let arrays = arrays_of values in
    let behind = behind_of arrays.1 in
    (record { arrays = arrays.0; behind = behind.0 }, behind.1)

abbrev pub joined : Front → Rest → Machine
joined front rest = record {
  top_mib = front.top_mib;
  oem_strings = front.oem_strings;
  generation = front.generation;
  system = front.system;
  firmware = front.firmware;
  chassis = front.chassis;
  sockets = rest.arrays.sockets;
  dimms = rest.arrays.dimms;
  ranges = rest.arrays.ranges;
  slots = rest.arrays.slots;
  acpi = rest.behind.acpi_parts.tables.acpi;
  power = rest.behind.acpi_parts.tables.power;
  hpet = rest.behind.acpi_parts.tables.hpet;
  apic = rest.behind.acpi_parts.tables.apic;
  cpus = rest.behind.acpi_parts.entries.cpus;
  io_apics = rest.behind.acpi_parts.entries.io_apics;
  overrides = rest.behind.acpi_parts.entries.overrides;
  nmis = rest.behind.acpi_parts.entries.nmis;
  numa = rest.behind.acpi_parts.entries.numa;
  bridge = rest.behind.devices.bridge;
  uarts = rest.behind.devices.uarts;
}

-- what stands before the arrays, and what stands there and behind
unfoldable pub machine_of : List Value → Machine
machine_of values =
    let front = front_of values in
    joined front.0 (rest_of front.1).0
