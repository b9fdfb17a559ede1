use Rattle.std.proofs.Common.{◌≡◌, ◌++◌, take}
use Rattle.acpi_model.specs.MachineMadt.{cpu_entries}
use Rattle.acpi_model.proofs.machine_madt.push_cpus.Given as goal

abbrev pub invariant-loop-position : goal.invariant-loop-position
invariant-loop-position l = l.entries ≡ l.fn.entries ++ cpu_entries (take l.position l.cpus)
