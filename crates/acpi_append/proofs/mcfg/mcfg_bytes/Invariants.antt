use Rattle.std.proofs.Common.{take}
use Rattle.blob_holes.specs.Plain.{Spells}
use Rattle.acpi_model.specs.Mcfg.{allocations_rows}
use Rattle.acpi_append.proofs.mcfg.mcfg_bytes.Given as goal

abbrev pub invariant-loop-allocation : goal.invariant-loop-allocation
invariant-loop-allocation l = Spells (allocations_rows (take l.allocation-index l.fn.mcfg.allocations)) l.bytes
