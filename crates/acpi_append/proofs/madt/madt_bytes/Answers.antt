use Rattle.std.proofs.Common.{map, take}
use Rattle.vt_layout.specs.Entries.{entries_rows}
use Rattle.acpi_records.specs.declared.madt_entry.MadtEntry.TheVariants.{LocalApic}
use Rattle.acpi_model.specs.MadtEntries.{madt_entry_of}
use Rattle.acpi_append.proofs.EntryPut.{spelled_more}
use Rattle.acpi_append.proofs.madt.madt_bytes.Goals as goal

pub loop-entry-preserved : goal.loop-entry-preserved
loop-entry-preserved c =
    let entries = c.args.madt.now.entries in
    spelled_more madt_entry_of entries c.as_slice-entry-items.result.now c.loop-entry.entry-index (LocalApic (record { uid = 0; apic = 0; flags = 0 }))
    c.put_madt_entry.new.bytes c.as_slice-entry-items.ensures c.loop-entry-test.true
    (c.in_ok-put_madt_entry.ensures (entries_rows (map madt_entry_of (take c.loop-entry.entry-index entries))) c.loop-entry.invariant)
