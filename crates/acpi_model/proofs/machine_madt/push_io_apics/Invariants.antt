use Rattle.std.proofs.Common.{◌≡◌, ◌++◌, map, take}
use Rattle.acpi_model.specs.MachineMadt.{io_apic_entry}
use Rattle.acpi_model.proofs.machine_madt.push_io_apics.Given as goal

abbrev pub invariant-loop-io_apic : goal.invariant-loop-io_apic
invariant-loop-io_apic l = l.entries ≡ l.fn.entries ++ map io_apic_entry (take l.io_apic-index l.io_apics)
