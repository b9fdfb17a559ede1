use Rattle.std.proofs.Common.{◌≡◌, map, take}
use Rattle.acpi_append.specs.Tables.{table_pointer}
use Rattle.acpi_append.proofs.xsdt.entries_of.Given as goal

abbrev pub invariant-loop-table : goal.invariant-loop-table
invariant-loop-table l = l.entries ≡ map table_pointer (take l.table-index l.tables)
