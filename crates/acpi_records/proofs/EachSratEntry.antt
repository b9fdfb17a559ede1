-- Each entry of the SRAT: it is got back from its rows, and is of its type; how many bytes it has, and that its rows are plain and fit.
use Rattle.std.proofs.Common.{◌≡◌, ℕ, List, refl, ap, arith, rules}
use Rattle.std.specs.List.{AllByRecursion}
use Rattle.vt_layout.specs.Rows.{size, IsRow, IsPlain}
use Rattle.vt_layout.specs.Entries.{IsOfType, entry_rows, linked_entry}
use Rattle.acpi_records.specs.declared.srat_entry.SratEntry.{SratEntry}
use Rattle.acpi_records.specs.declared.srat_entry.SratEntry.TheVariants.{Apic, Memory, X2Apic, Other}
use Rattle.acpi_records.specs.NodeBack.{apic_affinity_back}
use Rattle.acpi_records.specs.SratEntries.{srat_entry_of, srat_types, srat_entry, IsSratEntry, IsFittingSratEntry, srat_entry_size}

pub srat_entry_back : (e : SratEntry) → srat_entry (srat_entry_of e) ≡ e
srat_entry_back (Apic e) = ap Apic (apic_affinity_back e)
srat_entry_back (Memory e) = refl
srat_entry_back (X2Apic e) = refl
srat_entry_back (Other kind length) = refl

pub srat_entry_linked : (place_of : List ℕ → ℕ) (e : SratEntry) → linked_entry place_of (srat_entry_of e) ≡ srat_entry_of e
srat_entry_linked place_of (Apic e) = refl
srat_entry_linked place_of (Memory e) = refl
srat_entry_linked place_of (X2Apic e) = refl
srat_entry_linked place_of (Other kind length) = refl

pub srat_entry_typed : (e : SratEntry) → IsSratEntry e → IsOfType srat_types (srat_entry_of e)
srat_entry_typed (Apic e) is = refl
srat_entry_typed (Memory e) is = refl
srat_entry_typed (X2Apic e) is = refl
srat_entry_typed (Other kind length) is = is

pub srat_entry_sized : (e : SratEntry) → IsSratEntry e → size (entry_rows (srat_entry_of e)) ≡ srat_entry_size e
srat_entry_sized (Apic e) is = refl
srat_entry_sized (Memory e) is = refl
srat_entry_sized (X2Apic e) is = refl
srat_entry_sized (Other kind length) is = omega (arith, is.1)

pub srat_entry_plain : (e : SratEntry) → AllByRecursion IsPlain (entry_rows (srat_entry_of e))
srat_entry_plain (Apic e) = search rules
srat_entry_plain (Memory e) = search rules
srat_entry_plain (X2Apic e) = search rules
srat_entry_plain (Other kind length) = search rules

pub srat_entry_fits : (e : SratEntry) → IsFittingSratEntry e → AllByRecursion IsRow (entry_rows (srat_entry_of e))
srat_entry_fits (Apic e) fit = search (rules, fit.0, fit.1, fit.2)
srat_entry_fits (Memory e) fit = search (rules, fit.0, fit.1, fit.2, fit.3)
srat_entry_fits (X2Apic e) fit = search (rules, fit.0, fit.1, fit.2)
srat_entry_fits (Other kind length) fit = search (rules, fit.0, fit.1)
