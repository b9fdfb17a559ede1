use Rattle.std.proofs.Common.{map, take}
use Rattle.vt_layout.specs.Entries.{entries_rows}
use Rattle.blob_holes.specs.Plain.{Spells}
use Rattle.acpi_model.specs.MadtEntries.{madt_entry_of}
use Rattle.acpi_append.proofs.madt.madt_bytes.Given as goal

abbrev pub invariant-loop-entry : goal.invariant-loop-entry
invariant-loop-entry l = Spells (entries_rows (map madt_entry_of (take l.entry-index l.fn.madt.entries))) l.bytes
