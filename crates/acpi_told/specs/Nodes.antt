-- Processors and ranges on the nodes that the entries of an SRAT tell, each from the entry at its own place (ACPI 6.5, 5.2.16).
use Rattle.std.specs.Prelude.{ℕ, List, [], ◌∷◌, slice_get}
use Rattle.std.specs.Option.{option_map_or}
use Rattle.machine_desc.specs.declared.acpi_parts.Cpu.{Cpu}
use Rattle.machine_desc.specs.declared.smbios_parts.MemRange.{MemRange}
use Rattle.acpi_records.specs.declared.srat_entry.SratEntry.{SratEntry}
use Rattle.acpi_model.specs.MachineSrat.{cpu_node, range_node, nodes_told}

-- parts on these nodes, one after the other; those for which there is none stay
abbrev pub on_nodes : {Part : Type 0} → (Part → ℕ → Part) → List ℕ → List Part → List Part
on_nodes placed [] parts = parts
on_nodes placed (node ∷ nodes) [] = []
on_nodes placed (node ∷ nodes) (part ∷ parts) = placed part node ∷ on_nodes placed nodes parts

-- parts on the nodes that entries tell of them
abbrev pub on_told_nodes : {Part : Type 0} → (Part → SratEntry → ℕ) → (Part → ℕ → Part) → List SratEntry → List Part → List Part
on_told_nodes told placed entries parts = on_nodes placed (nodes_told told parts entries) parts

-- the node that the entry at a place tells of a part, and 0 where there is none
abbrev pub node_at : {Part : Type 0} → (Part → SratEntry → ℕ) → List SratEntry → ℕ → Part → ℕ
node_at told entries place part = option_map_or (told part) (slice_get entries place) 0

-- of a processor, and of a range

abbrev pub node_of_cpu : Cpu → SratEntry → ℕ
node_of_cpu cpu entry = cpu_node cpu.apic entry

abbrev pub cpu_on : Cpu → ℕ → Cpu
cpu_on cpu node = record cpu { node = node }

abbrev pub node_of_range : MemRange → SratEntry → ℕ
node_of_range range entry = range_node entry

abbrev pub range_on : MemRange → ℕ → MemRange
range_on range node = record range { node = node }
