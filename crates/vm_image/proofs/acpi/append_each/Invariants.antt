use Rattle.std.proofs.Common.{take}
use Rattle.vm_image.specs.AcpiHeld.{AreAppended}
use Rattle.vm_image.proofs.acpi.append_each.Given as goal

abbrev pub invariant-loop-table : goal.invariant-loop-table
invariant-loop-table l = AreAppended l.fn.file (take l.table-index l.tables) l.places l.file
