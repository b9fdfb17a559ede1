-- The parts of a machine that ACPI tables tell (ACPI 6.5, 5.2), but for the devices that a DSDT does.
use Rattle.std.specs.Prelude.{Bool, List, [], Option, Some, None, option_map}
use Rattle.std.specs.Option.{option_map_or}
use Rattle.machine_desc.specs.declared.acpi_parts.Cpu.{Cpu}
use Rattle.machine_desc.specs.declared.acpi_parts.Power.{Power}
use Rattle.machine_desc.specs.declared.device_parts.Bridge.{Bridge}
use Rattle.acpi_records.specs.declared.fadt.Fadt.{Fadt}
use Rattle.acpi_records.specs.declared.madt.Madt.{Madt}
use Rattle.acpi_records.specs.declared.mcfg.Mcfg.{Mcfg}
use Rattle.acpi_records.specs.declared.srat.Srat.{Srat}
use Rattle.acpi_records.specs.declared.srat_entry.SratEntry.{SratEntry}
use Rattle.acpi_records.specs.Hpet.{hpet_in}
use Rattle.acpi_model.specs.declared.acpi.AcpiTables.{AcpiTables}
use Rattle.acpi_model.specs.Maker.{acpi_in}
use Rattle.acpi_model.specs.MachineFadt.{power_in}
use Rattle.acpi_model.specs.MachineMadt.{apic_in, cpus_in, io_apics_in, overrides_in, nmis_in}
use Rattle.acpi_model.specs.MachineSlit.{numa_in}
use Rattle.acpi_model.specs.MachineMcfg.{ecam_in}
use Rattle.acpi_told.specs.declared.controllers.Controllers.{Controllers}
use Rattle.acpi_told.specs.declared.parts.AcpiParts.{AcpiParts}
use Rattle.acpi_told.specs.Nodes.{on_told_nodes, node_of_cpu, cpu_on}

-- Power management, with the clock and the keyboard that devices tell.
abbrev pub power_told : Bool → Bool → Fadt → Power
power_told clock keyboard t = record (power_in clock t) { keyboard = keyboard }

-- A bridge that its device tells, with its configuration space.
abbrev pub bridge_told : Option Mcfg → Bridge → Bridge
bridge_told mcfg bridge = record bridge { ecam = ecam_in mcfg }

-- the entries of an SRAT, of which there are none without one
abbrev pub affinities_of : Option Srat → List SratEntry
affinities_of srat = option_map_or (λ (t : Srat). t.entries) srat []

-- what a MADT tells, with the nodes of processors that an SRAT tells
abbrev pub cpus_told : Option Madt → Option Srat → List Cpu
cpus_told madt srat = on_told_nodes node_of_cpu cpu_on (affinities_of srat) (option_map_or cpus_in madt [])

abbrev pub controllers_told : Option Madt → Option Srat → Controllers
controllers_told madt srat = record {
  apic = option_map apic_in madt;
  cpus = cpus_told madt srat;
  io_apics = option_map_or io_apics_in madt [];
  overrides = option_map_or overrides_in madt [];
  nmis = option_map_or nmis_in madt [];
}

abbrev pub parts_told : AcpiTables → AcpiParts
parts_told t = record {
  acpi = Some (acpi_in t.oem_id t.xsdt);
  hpet = option_map hpet_in t.hpet;
  controllers = controllers_told t.madt t.srat;
  numa = option_map numa_in t.slit;
}

-- A part without its table is absent.
abbrev pub no_parts : AcpiParts
no_parts = record {
  acpi = None;
  hpet = None;
  controllers = record { apic = None; cpus = []; io_apics = []; overrides = []; nmis = [] };
  numa = None;
}

abbrev pub parts_in : Option AcpiTables → AcpiParts
parts_in tables = option_map_or parts_told tables no_parts

-- the entries of the SRAT among them
abbrev pub affinities_in : Option AcpiTables → List SratEntry
affinities_in tables = option_map_or (λ (t : AcpiTables). affinities_of t.srat) tables []

-- the FADT of some tables, and the MCFG
abbrev pub fadt_of : AcpiTables → Option Fadt
fadt_of t = t.fadt

abbrev pub mcfg_of : AcpiTables → Option Mcfg
mcfg_of t = t.mcfg
