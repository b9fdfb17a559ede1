use Rattle.std.proofs.Common.{map, take}
use Rattle.vt_layout.specs.Entries.{entries_rows}
use Rattle.blob_holes.specs.Plain.{Spells}
use Rattle.acpi_model.specs.SratEntries.{srat_entry_of}
use Rattle.acpi_append.proofs.srat.srat_bytes.Given as goal

abbrev pub invariant-loop-entry : goal.invariant-loop-entry
invariant-loop-entry l = Spells (entries_rows (map srat_entry_of (take l.entry-index l.fn.srat.entries))) l.bytes
