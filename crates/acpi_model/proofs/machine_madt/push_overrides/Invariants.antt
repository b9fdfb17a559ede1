use Rattle.std.proofs.Common.{◌≡◌, ◌++◌, map, take}
use Rattle.acpi_model.specs.MachineMadt.{override_entry}
use Rattle.acpi_model.proofs.machine_madt.push_overrides.Given as goal

abbrev pub invariant-loop-over : goal.invariant-loop-over
invariant-loop-over l = l.entries ≡ l.fn.entries ++ map override_entry (take l.over-index l.overrides)
