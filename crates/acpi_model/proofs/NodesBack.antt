-- The nodes of an accepted machine are got back from its SRAT and its SLIT.
use Rattle.std.proofs.Common.{◌≡◌, length, map, Option, Some, None, IfSome}
use Rattle.machine_desc.specs.declared.machine.Machine.{Machine}
use Rattle.machine_desc.specs.declared.machine.Acpi.{Acpi}
use Rattle.machine_desc.specs.declared.acpi_parts.Numa.{Numa}
use Rattle.machine_desc.specs.Rules.{apic_id, IsAccepted}
use Rattle.acpi_model.specs.MachineSrat.{srat_of_machine, cpu_nodes, range_nodes}
use Rattle.acpi_model.specs.MachineSlit.{slit_of_machine, numa_in}
use Rattle.acpi_model.proofs.MachineSrats.{node_of_cpu, node_of_range, cpu_nodes_back, range_nodes_back}
use Rattle.acpi_model.proofs.MachineSlits.{IsSquare, numa_back}
use Rattle.acpi_model.proofs.AcceptedNodes.{small_nodes, accepted_numa}

pub machine_cpu_nodes : (m : Machine) (acpi : Acpi) → IsAccepted m
    → cpu_nodes (map apic_id m.cpus) (srat_of_machine m acpi).entries ≡ map node_of_cpu m.cpus
machine_cpu_nodes m acpi accepted = cpu_nodes_back m.cpus m.ranges (small_nodes m accepted).cpus

pub machine_range_nodes : (m : Machine) (acpi : Acpi) → IsAccepted m
    → range_nodes (length m.cpus) m.ranges (srat_of_machine m acpi).entries ≡ map node_of_range m.ranges
machine_range_nodes m acpi accepted = range_nodes_back m.cpus m.ranges (small_nodes m accepted).ranges

back_at : (acpi : Acpi) (part : Option Numa) → IfSome part IsSquare → IfSome part (λ numa. numa_in (slit_of_machine acpi numa) ≡ numa)
back_at acpi None square = tt
back_at acpi (Some numa) square = numa_back acpi numa square

pub machine_numa : (m : Machine) (acpi : Acpi) → IsAccepted m → IfSome m.numa (λ numa. numa_in (slit_of_machine acpi numa) ≡ numa)
machine_numa m acpi accepted = back_at acpi m.numa (accepted_numa m accepted)
