use Rattle.std.proofs.Common.{◌≡◌, ◌+◌}
use Rattle.acpi_decode.specs.Allocations.{allocations_at}
use Rattle.acpi_decode.proofs.mcfg.read_allocations.Given as goal

abbrev pub invariant-loop-index : goal.invariant-loop-index
invariant-loop-index g l = l.allocations ≡ allocations_at (g.V.MemView.seen l.view) (l.table + 44) l.index
