use Rattle.std.proofs.Common.{◌≡◌, ◌++◌, map, take}
use Rattle.acpi_model.specs.MachineSrat.{range_affinity}
use Rattle.acpi_model.proofs.machine_srat.push_ranges.Given as goal

abbrev pub invariant-loop-range : goal.invariant-loop-range
invariant-loop-range l = l.entries ≡ l.fn.entries ++ map range_affinity (take l.range-index l.ranges)
