use Rattle.vt_layout.proofs.Entries.{list_back, list_linked, list_typed}
use Rattle.vt_layout.specs.Rows.{IsRow}
use Rattle.acpi_records.specs.SratEntries.{srat_entry_of, srat_types, srat_entry, IsSratEntry, IsFittingSratEntry, srat_entry_size}
use Rattle.acpi_records.proofs.EntryLists.{list_sized, list_rows, list_plain}
use Rattle.acpi_records.proofs.EachSratEntry.{srat_entry_back, srat_entry_linked, srat_entry_typed, srat_entry_sized, srat_entry_plain, srat_entry_fits}
use Rattle.acpi_records.proofs.laws.entries_of_an_srat_are_got_back.Goals as goal

pub returns : goal.returns
returns c = record {
  back = list_back srat_entry_of srat_entry srat_entry_back;
  linked = λ place_of. list_linked srat_entry_of place_of (srat_entry_linked place_of);
  typed = list_typed srat_types srat_entry_of IsSratEntry srat_entry_typed;
  sized = list_sized srat_entry_of srat_entry_size IsSratEntry srat_entry_sized;
  plain = list_plain srat_entry_of srat_entry_plain;
  fit = list_rows srat_entry_of IsRow IsFittingSratEntry srat_entry_fits;
}
