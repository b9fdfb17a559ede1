use Rattle.vt_layout.proofs.Entries.{list_back, list_linked, list_typed}
use Rattle.vt_layout.specs.Rows.{IsRow}
use Rattle.acpi_records.specs.MadtEntries.{madt_entry_of, madt_types, madt_entry, IsMadtEntry, IsFittingMadtEntry, madt_entry_size}
use Rattle.acpi_records.proofs.EntryLists.{list_sized, list_rows, list_plain}
use Rattle.acpi_records.proofs.EachMadtEntry.{madt_entry_back, madt_entry_linked, madt_entry_typed, madt_entry_sized, madt_entry_plain, madt_entry_fits}
use Rattle.acpi_records.proofs.laws.entries_of_a_madt_are_got_back.Goals as goal

pub returns : goal.returns
returns c = record {
  back = list_back madt_entry_of madt_entry madt_entry_back;
  linked = λ place_of. list_linked madt_entry_of place_of (madt_entry_linked place_of);
  typed = list_typed madt_types madt_entry_of IsMadtEntry madt_entry_typed;
  sized = list_sized madt_entry_of madt_entry_size IsMadtEntry madt_entry_sized;
  plain = list_plain madt_entry_of madt_entry_plain;
  fit = list_rows madt_entry_of IsRow IsFittingMadtEntry madt_entry_fits;
}
