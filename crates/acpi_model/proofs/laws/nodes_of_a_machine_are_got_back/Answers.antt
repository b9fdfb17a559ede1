use Rattle.acpi_model.proofs.NodesBack.{machine_cpu_nodes, machine_range_nodes, machine_numa}
use Rattle.acpi_model.proofs.laws.nodes_of_a_machine_are_got_back.Goals as goal

pub returns : goal.returns
returns c = record { cpus = machine_cpu_nodes; ranges = machine_range_nodes; numa = machine_numa }
