-- The SLIT of a machine (ACPI 6.5, 5.2.17), and the nodes that it tells.
use Rattle.machine_desc.specs.declared.machine.Acpi.{Acpi}
use Rattle.machine_desc.specs.declared.acpi_parts.Numa.{Numa}
use Rattle.machine_desc.specs.Fields.{fitted}
use Rattle.acpi_records.specs.declared.slit.Slit.{Slit}
use Rattle.acpi_records.specs.Header.{head_of}

abbrev pub slit_of_machine : Acpi → Numa → Slit
slit_of_machine acpi numa = record { head = head_of acpi 1; count = numa.nodes; distances = numa.distance }

-- The nodes that a SLIT tells. A count that has more bits than a description has for it is 0.
abbrev pub numa_in : Slit → Numa
numa_in t = record { nodes = fitted 8 t.count; distance = t.distances }
