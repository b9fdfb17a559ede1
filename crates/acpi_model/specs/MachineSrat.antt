-- The SRAT of a machine (ACPI 6.5, 5.2.16), and the nodes that its entries tell.
use Rattle.std.specs.Prelude.{ℕ, ◌*◌, List, [], ◌∷◌, ◌++◌, map, drop, nat_le, if◌then◌else◌}
use Rattle.machine_desc.specs.declared.machine.Machine.{Machine}
use Rattle.machine_desc.specs.declared.machine.Acpi.{Acpi}
use Rattle.machine_desc.specs.declared.acpi_parts.Cpu.{Cpu}
use Rattle.machine_desc.specs.declared.smbios_parts.MemRange.{MemRange}
use Rattle.machine_desc.specs.Fields.{fitted}
use Rattle.acpi_records.specs.declared.srat_entry.SratEntry.{SratEntry}
use Rattle.acpi_records.specs.declared.srat_entry.SratEntry.TheVariants.{Apic, Memory, X2Apic}
use Rattle.acpi_records.specs.declared.srat.Srat.{Srat}
use Rattle.acpi_records.specs.Header.{head_of}

-- The node of a processor. An id of 255 names each local APIC, so that from there on the entry is that of an x2APIC.
abbrev pub cpu_affinity : Cpu → SratEntry
cpu_affinity cpu =
    if nat_le cpu.apic 254 then Apic (record { node = cpu.node; apic = cpu.apic; flags = 1 })
    else X2Apic (record { node = cpu.node; apic = cpu.apic; flags = 1 })

-- the node of a range of memory, which stands there in bytes
abbrev pub range_affinity : MemRange → SratEntry
range_affinity range =
    Memory (record { node = range.node; base = range.base_mib * 0x100000; length = range.size_mib * 0x100000; flags = 1 })

-- the processors, and then the ranges
abbrev pub affinities : List Cpu → List MemRange → List SratEntry
affinities cpus ranges = map cpu_affinity cpus ++ map range_affinity ranges

abbrev pub srat_of_machine : Machine → Acpi → Srat
srat_of_machine m acpi = record { head = head_of acpi 3; entries = affinities m.cpus m.ranges }

-- The node that an entry tells of a processor with this APIC id: 0 where the entry isn't of the kind that is written for it, and where the
-- node has more bits than a description has for it.
abbrev pub apic_node : SratEntry → ℕ
apic_node (Apic e) = fitted 8 e.node
apic_node entry = 0

abbrev pub x2apic_node : SratEntry → ℕ
x2apic_node (X2Apic e) = fitted 8 e.node
x2apic_node entry = 0

abbrev pub cpu_node : ℕ → SratEntry → ℕ
cpu_node apic entry = if nat_le apic 254 then apic_node entry else x2apic_node entry

-- the same of a range of memory
abbrev pub range_node : SratEntry → ℕ
range_node (Memory e) = fitted 8 e.node
range_node entry = 0

-- what the entry at its own place tells of each of a list, and 0 of one that has none
abbrev pub nodes_told : {A : Type 0} → (A → SratEntry → ℕ) → List A → List SratEntry → List ℕ
nodes_told node [] entries = []
nodes_told node (a ∷ more) [] = 0 ∷ nodes_told node more []
nodes_told node (a ∷ more) (entry ∷ entries) = node a entry ∷ nodes_told node more entries

-- the nodes of processors with these APIC ids, and those of ranges behind so many processors
abbrev pub cpu_nodes : List ℕ → List SratEntry → List ℕ
cpu_nodes apics entries = nodes_told cpu_node apics entries

abbrev pub range_nodes : ℕ → List MemRange → List SratEntry → List ℕ
range_nodes cpus ranges entries = nodes_told (λ range. range_node) ranges (drop cpus entries)
