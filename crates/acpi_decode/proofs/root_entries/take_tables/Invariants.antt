use Rattle.acpi_decode.proofs.NamedInTurn.{IsReached}
use Rattle.acpi_decode.proofs.root_entries.take_tables.Given as goal

abbrev pub invariant-loop-index : goal.invariant-loop-index
invariant-loop-index g l = IsReached l.fn.form (g.V.MemView.seen l.view) l.fn.root l.fn.found l.found l.index
