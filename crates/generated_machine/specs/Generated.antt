-- The machine that is generated of a number of processors, 1 to 4,096. What isn't said has the default of its key.
use Rattle.std.specs.Prelude.{ℕ, ◌+◌, ◌-◌, ◌*◌, ◌/◌, ◌%◌, ◌==◌, min, true, false, List, [], ◌∷◌, ◌++◌, map, replicate, Some, None, codes, decimal}
use Rattle.std.specs.Prelude.{if◌then◌else◌}
use Rattle.std.specs.List.{range_with_len}
use Rattle.machine_desc.specs.declared.machine.Machine.{Machine}
use Rattle.machine_desc.specs.declared.machine.System.{System}
use Rattle.machine_desc.specs.declared.machine.Acpi.{Acpi}
use Rattle.machine_desc.specs.declared.machine.Hpet.{Hpet}
use Rattle.machine_desc.specs.declared.acpi_parts.Power.{Power}
use Rattle.machine_desc.specs.declared.acpi_parts.Cpu.{Cpu}
use Rattle.machine_desc.specs.declared.acpi_parts.IoApic.{IoApic}
use Rattle.machine_desc.specs.declared.acpi_parts.Numa.{Numa}
use Rattle.machine_desc.specs.declared.device_parts.Bridge.{Bridge}
use Rattle.machine_desc.specs.declared.device_parts.Window.{Window}
use Rattle.machine_desc.specs.declared.device_parts.WindowKind.TheVariants.{Io, Mem32}
use Rattle.machine_desc.specs.declared.device_parts.Route.{Route}
use Rattle.machine_desc.specs.declared.device_parts.Uart.{Uart}
use Rattle.machine_desc.specs.declared.smbios_parts.Socket.{Socket}
use Rattle.machine_desc.specs.declared.smbios_parts.Dimm.{Dimm}
use Rattle.machine_desc.specs.declared.smbios_parts.MemRange.{MemRange}

-- each processor has a node of its own, until there are four
abbrev pub node_count : ℕ → ℕ
node_count processors = min processors 4

-- the processors, on the nodes in turn
abbrev pub cpu_at : ℕ → ℕ → Cpu
cpu_at nodes position = record { apic = position; node = position % nodes; enabled = true }

abbrev pub cpus : ℕ → List Cpu
cpus processors = map (cpu_at (node_count processors)) (range_with_len 0 processors)

-- sockets of 64 processors, as few as hold them; the last one has those that are left
abbrev pub socket_at : ℕ → ℕ → Socket
socket_at processors position =
    let cores = min 64 (processors - 64 * position) in
    record {
      designation = codes "CPU" ++ decimal position;
      manufacturer = [];
      version = [];
      serial = [];
      asset = [];
      part = [];
      cores = cores;
      threads = cores;
      mhz = 0;
    }

abbrev pub sockets : ℕ → List Socket
sockets processors = map (socket_at processors) (range_with_len 0 ((processors + 63) / 64))

-- a module for each node, of as many GiB as there are processors
abbrev pub dimm : ℕ → Dimm
dimm processors = record {
  locator = [];
  bank = [];
  manufacturer = [];
  serial = [];
  asset = [];
  part = [];
  size_mib = 1024 * processors;
  speed = 0;
}

abbrev pub dimms : ℕ → List Dimm
dimms processors = replicate (node_count processors) (dimm processors)

-- memory below the top on the first node, and from 4 GiB on as many GiB as there are processors on the last one
abbrev pub ranges : ℕ → List MemRange
ranges processors =
    record { base_mib = 0; size_mib = 2048; node = 0 } ∷ record { base_mib = 4096; size_mib = 1024 * processors; node = node_count processors - 1 }
    ∷ []

-- 10 from a node to itself, and 20 to another
abbrev pub distance_at : ℕ → ℕ → ℕ
distance_at nodes place = if place / nodes == place % nodes then 10 else 20

abbrev pub distances : ℕ → List ℕ
distances nodes = map (distance_at nodes) (range_with_len 0 (nodes * nodes))

abbrev pub numa : ℕ → Numa
numa nodes = record { nodes = nodes; distance = distances nodes }

-- a route of each pin of each device, to four interrupts in turn
abbrev pub route_at : ℕ → Route
route_at place = record { device = place / 4; pin = place % 4; gsi = 16 + (place / 4 + place % 4) % 4 }

abbrev pub routes : List Route
routes = map route_at (range_with_len 0 128)

-- ports above those of the board, and memory below the configuration space
abbrev pub windows : List Window
windows =
    record { kind = Io; base = 0x1000; size = 0xF000; prefetch = false } ∷ record { kind = Mem32; base = 0xC0000000; size = 0x10000000; prefetch = false }
    ∷ []

-- a bridge with all 256 buses
abbrev pub bridge : Bridge
bridge = record { ecam = 0xE0000000; last_bus = 255; windows = windows; routes = routes }

abbrev pub system : System
system = record { manufacturer = codes "VMTABLES"; product = codes "GEN"; version = []; serial = []; sku = []; family = []; uuid = None }

abbrev pub power : Power
power = record {
  sci = 9;
  profile = 0;
  event = 0x600;
  control = 0x604;
  timer = 0x608;
  gpe = 0;
  gpe_len = 0;
  reset = 0;
  reset_value = 0;
  century = 0;
  rtc = true;
  keyboard = true;
}

-- the defaults of the keys of these two tables
abbrev pub acpi : Acpi
acpi = record { oem_id = codes "BOCHS"; oem_table_id = codes "BXPC" }

abbrev pub hpet : Hpet
hpet = record { address = 0xFED00000; block_id = 0x8086A201; number = 0; min_tick = 100 }

abbrev pub io_apics : List IoApic
io_apics = record { id = 0; address = 0xFEC00000; gsi = 0 } ∷ []

abbrev pub uarts : List Uart
uarts = record { port = 0x3F8; irq = 4 } ∷ []

unfoldable pub generated : ℕ → Machine
generated processors = record {
  top_mib = 2048;
  oem_strings = [];
  generation = None;
  system = system;
  firmware = None;
  chassis = None;
  sockets = sockets processors;
  dimms = dimms processors;
  ranges = ranges processors;
  slots = [];
  acpi = Some acpi;
  power = Some power;
  hpet = Some hpet;
  apic = Some (record { local = 0xFEE00000; legacy = true });
  cpus = cpus processors;
  io_apics = io_apics;
  overrides = [];
  nmis = [];
  numa = Some (numa (node_count processors));
  bridge = Some bridge;
  uarts = uarts;
}
