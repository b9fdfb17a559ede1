use Rattle.std.proofs.Common.{◌≡◌, ◌++◌, map, take}
use Rattle.acpi_model.specs.MachineSrat.{cpu_affinity}
use Rattle.acpi_model.proofs.machine_srat.push_cpus.Given as goal

abbrev pub invariant-loop-cpu : goal.invariant-loop-cpu
invariant-loop-cpu l = l.entries ≡ l.fn.entries ++ map cpu_affinity (take l.cpu-index l.cpus)
