-- The MADT of a machine (ACPI 6.5, 5.2.12), and the parts of a machine that it tells.
use Rattle.std.specs.Prelude.{ℕ, ◌==◌, nat_le, ◌&&◌, if◌then◌else◌, List, ◌++◌, map, Option, Some, None}
use Rattle.std.specs.List.{filter_map, enumerate_from}
use Rattle.machine_desc.specs.declared.machine.Machine.{Machine}
use Rattle.machine_desc.specs.declared.machine.Acpi.{Acpi}
use Rattle.machine_desc.specs.declared.acpi_parts.Apic.{Apic}
use Rattle.machine_desc.specs.declared.acpi_parts.Cpu.{Cpu}
use Rattle.machine_desc.specs.declared.acpi_parts.IoApic.{IoApic}
use Rattle.machine_desc.specs.declared.acpi_parts.Override.{Override}
use Rattle.machine_desc.specs.declared.acpi_parts.Nmi.{Nmi}
use Rattle.acpi_records.specs.declared.madt.Madt.{Madt}
use Rattle.acpi_records.specs.declared.madt_entry.MadtEntry.{MadtEntry}
use Rattle.acpi_records.specs.declared.madt_entry.MadtEntry.TheVariants.{LocalApic, LocalNmi, X2Apic, X2ApicNmi, IoApic as IoApicVariant}
use Rattle.acpi_records.specs.declared.madt_entry.MadtEntry.TheVariants.{Override as OverrideVariant}
use Rattle.acpi_records.specs.Header.{head_of}

-- A processor's UID is its position. It has a local APIC where its UID and its APIC id are at most 254, since 255 means all processors
-- there, and else a local x2APIC (5.2.12.2 and 5.2.12.12).
abbrev pub cpu_flags : Cpu → ℕ
cpu_flags c = if c.enabled then 1 else 0

abbrev pub cpu_entry : ℕ × Cpu → MadtEntry
cpu_entry c =
    if nat_le c.0 254 && nat_le c.1.apic 254 then LocalApic (record { uid = c.0; apic = c.1.apic; flags = cpu_flags c.1 })
    else X2Apic (record { apic = c.1.apic; flags = cpu_flags c.1; uid = c.0 })

abbrev pub io_apic_entry : IoApic → MadtEntry
io_apic_entry a = IoApicVariant (record { id = a.id; address = a.address; gsi = a.gsi })

-- the interrupt of the ISA bus
abbrev pub override_entry : Override → MadtEntry
override_entry o = OverrideVariant (record { bus = 0; irq = o.irq; gsi = o.gsi; flags = o.flags })

-- An NMI of all processors has the UID 255; one of a processor whose UID is above 254 is that of a local x2APIC (5.2.12.7 and 5.2.12.13).
abbrev pub nmi_entry_for : Option ℕ → ℕ → ℕ → MadtEntry
nmi_entry_for None flags lint = LocalNmi (record { uid = 0xFF; flags = flags; lint = lint })
nmi_entry_for (Some cpu) flags lint =
    if nat_le cpu 254 then LocalNmi (record { uid = cpu; flags = flags; lint = lint })
    else X2ApicNmi (record { flags = flags; uid = cpu; lint = lint })

abbrev pub nmi_entry : Nmi → MadtEntry
nmi_entry n = nmi_entry_for n.cpu n.flags n.lint

-- the entries of a machine: processors, I/O APICs, overrides and NMIs, each in its order
abbrev pub cpu_entries : List Cpu → List MadtEntry
cpu_entries cpus = map cpu_entry (enumerate_from 0 cpus)

abbrev pub entries_of : Machine → List MadtEntry
entries_of m = cpu_entries m.cpus ++ map io_apic_entry m.io_apics ++ map override_entry m.overrides ++ map nmi_entry m.nmis

abbrev pub apic_flags : Apic → ℕ
apic_flags apic = if apic.legacy then 1 else 0

-- the MADT of a machine with these interrupt controllers
abbrev pub madt_of_machine : Machine → Acpi → Apic → Madt
madt_of_machine m acpi apic =
    record { head = head_of acpi 5; address = apic.local; flags = apic_flags apic; entries = entries_of m }

-- The parts of a machine that a MADT tells. A truth is told by the value that is written for it, and no other. Nodes are told elsewhere.
abbrev pub apic_in : Madt → Apic
apic_in t = record { local = t.address; legacy = t.flags == 1 }

abbrev pub cpu_in : MadtEntry → Option Cpu
cpu_in (LocalApic e) = Some (record { apic = e.apic; node = 0; enabled = e.flags == 1 })
cpu_in (X2Apic e) = Some (record { apic = e.apic; node = 0; enabled = e.flags == 1 })
cpu_in entry = None

abbrev pub io_apic_in : MadtEntry → Option IoApic
io_apic_in (IoApicVariant e) = Some (record { id = e.id; address = e.address; gsi = e.gsi })
io_apic_in entry = None

abbrev pub override_in : MadtEntry → Option Override
override_in (OverrideVariant e) = Some (record { irq = e.irq; gsi = e.gsi; flags = e.flags })
override_in entry = None

abbrev pub nmi_in : MadtEntry → Option Nmi
nmi_in (LocalNmi e) = Some (record { cpu = if e.uid == 0xFF then None else Some e.uid; flags = e.flags; lint = e.lint })
nmi_in (X2ApicNmi e) = Some (record { cpu = Some e.uid; flags = e.flags; lint = e.lint })
nmi_in entry = None

-- of each kind those of its entries, in their order
abbrev pub cpus_in : Madt → List Cpu
cpus_in t = filter_map cpu_in t.entries

abbrev pub io_apics_in : Madt → List IoApic
io_apics_in t = filter_map io_apic_in t.entries

abbrev pub overrides_in : Madt → List Override
overrides_in t = filter_map override_in t.entries

abbrev pub nmis_in : Madt → List Nmi
nmis_in t = filter_map nmi_in t.entries

-- a processor but for its node
abbrev pub without_node : Cpu → Cpu
without_node c = record c { node = 0 }
