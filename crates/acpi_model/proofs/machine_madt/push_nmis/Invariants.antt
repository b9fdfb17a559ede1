use Rattle.std.proofs.Common.{◌≡◌, ◌++◌, map, take}
use Rattle.acpi_model.specs.MachineMadt.{nmi_entry}
use Rattle.acpi_model.proofs.machine_madt.push_nmis.Given as goal

abbrev pub invariant-loop-nmi : goal.invariant-loop-nmi
invariant-loop-nmi l = l.entries ≡ l.fn.entries ++ map nmi_entry (take l.nmi-index l.nmis)
