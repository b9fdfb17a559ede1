-- Machines whose numbers fit their fields, as those of each machine of the program do. The rules bound all other numbers.
use Rattle.std.specs.Prelude.{ℕ, ◌^◌, ◌<◌, IfSome, nat_lt, if◌then◌else◌}
use Rattle.std.specs.List.{AllByRecursion}
use Rattle.machine_desc.specs.declared.machine.Machine.{Machine}
use Rattle.machine_desc.specs.declared.machine.Hpet.{Hpet}
use Rattle.machine_desc.specs.declared.acpi_parts.Power.{Power}
use Rattle.machine_desc.specs.declared.acpi_parts.Apic.{Apic}
use Rattle.machine_desc.specs.declared.acpi_parts.Cpu.{Cpu}
use Rattle.machine_desc.specs.declared.acpi_parts.IoApic.{IoApic}
use Rattle.machine_desc.specs.declared.acpi_parts.Override.{Override}
use Rattle.machine_desc.specs.declared.acpi_parts.Nmi.{Nmi}
use Rattle.machine_desc.specs.declared.acpi_parts.Numa.{Numa}
use Rattle.machine_desc.specs.declared.device_parts.Bridge.{Bridge}
use Rattle.machine_desc.specs.declared.device_parts.Route.{Route}
use Rattle.machine_desc.specs.declared.smbios_parts.Firmware.{Firmware}
use Rattle.machine_desc.specs.declared.smbios_parts.Socket.{Socket}
use Rattle.machine_desc.specs.declared.smbios_parts.Slot.{Slot}
use Rattle.machine_desc.specs.declared.smbios_parts.MemRange.{MemRange}
use Rattle.machine_desc.specs.Rules.{HasFittingUuids}

-- the numbers of a firmware's release have 8 bits
pub record IsFittingFirmware (f : Firmware) : Type 0 where
  pub major : f.major < 2 ^ 8
  pub minor : f.minor < 2 ^ 8

-- the speed of a socket's processor has 16 bits
abbrev pub IsFittingSocket : Socket → Type 0
IsFittingSocket s = s.mhz < 2 ^ 16

-- a slot's kind, width and bus have 8 bits, its id 16
pub record IsFittingSlot (s : Slot) : Type 0 where
  pub kind : s.kind < 2 ^ 8
  pub width : s.width < 2 ^ 8
  pub id : s.id < 2 ^ 16
  pub bus : s.bus < 2 ^ 8

-- the numbers of a range have 32 bits, and those of an accepted machine's ranges fit them by its rules
pub record IsFittingRange (r : MemRange) : Type 0 where
  pub base_mib : r.base_mib < 2 ^ 32
  pub size_mib : r.size_mib < 2 ^ 32

-- the interrupt and the ports of power management have 16 bits, its other numbers 8
pub record IsFittingPower (p : Power) : Type 0 where
  pub sci : p.sci < 2 ^ 16
  pub profile : p.profile < 2 ^ 8
  pub event : p.event < 2 ^ 16
  pub control : p.control < 2 ^ 16
  pub timer : p.timer < 2 ^ 16
  pub gpe : p.gpe < 2 ^ 16
  pub gpe_len : p.gpe_len < 2 ^ 8
  pub reset : p.reset < 2 ^ 16
  pub reset_value : p.reset_value < 2 ^ 8
  pub century : p.century < 2 ^ 8

-- the address and the identifier of an HPET have 32 bits, its number 8, its least tick 16
pub record IsFittingHpet (h : Hpet) : Type 0 where
  pub address : h.address < 2 ^ 32
  pub block_id : h.block_id < 2 ^ 32
  pub number : h.number < 2 ^ 8
  pub min_tick : h.min_tick < 2 ^ 16

-- the address of the local APICs has 32 bits
abbrev pub IsFittingApic : Apic → Type 0
IsFittingApic a = a.local < 2 ^ 32

-- a processor's APIC id has 32 bits, its node 8
pub record IsFittingCpu (c : Cpu) : Type 0 where
  pub apic : c.apic < 2 ^ 32
  pub node : c.node < 2 ^ 8

-- an I/O APIC's id has 8 bits, its address and its first interrupt 32
pub record IsFittingIoApic (a : IoApic) : Type 0 where
  pub id : a.id < 2 ^ 8
  pub address : a.address < 2 ^ 32
  pub gsi : a.gsi < 2 ^ 32

-- the interrupt of an override has 32 bits
abbrev pub IsFittingOverride : Override → Type 0
IsFittingOverride o = o.gsi < 2 ^ 32

-- the position of an NMI's processor has 32 bits
abbrev pub IsFittingNmi : Nmi → Type 0
IsFittingNmi nmi = IfSome nmi.cpu (λ cpu. cpu < 2 ^ 32)

-- distances have 8 bits
abbrev pub IsFittingNuma : Numa → Type 0
IsFittingNuma n = AllByRecursion (λ distance. distance < 2 ^ 8) n.distance

-- the interrupt of a route has 32 bits
abbrev pub IsFittingRoute : Route → Type 0
IsFittingRoute r = r.gsi < 2 ^ 32

-- the number of a bridge's last bus has 8 bits
pub record IsFittingBridge (b : Bridge) : Type 0 where
  pub last_bus : b.last_bus < 2 ^ 8
  pub routes : AllByRecursion IsFittingRoute b.routes

pub record HasFittingFields (m : Machine) : Type 0 where
  pub uuids : HasFittingUuids m
  pub firmware : IfSome m.firmware IsFittingFirmware
  pub sockets : AllByRecursion IsFittingSocket m.sockets
  pub slots : AllByRecursion IsFittingSlot m.slots
  pub power : IfSome m.power IsFittingPower
  pub hpet : IfSome m.hpet IsFittingHpet
  pub apic : IfSome m.apic IsFittingApic
  pub cpus : AllByRecursion IsFittingCpu m.cpus
  pub io_apics : AllByRecursion IsFittingIoApic m.io_apics
  pub overrides : AllByRecursion IsFittingOverride m.overrides
  pub nmis : AllByRecursion IsFittingNmi m.nmis
  pub numa : IfSome m.numa IsFittingNuma
  pub bridge : IfSome m.bridge IsFittingBridge

-- what a number is told as that has so many bits: 0 where it doesn't fit them
abbrev pub fitted : ℕ → ℕ → ℕ
fitted bits number = if nat_lt number (2 ^ bits) then number else 0
