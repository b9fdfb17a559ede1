-- Each entry of the MADT: it is got back from its rows, and is of its type; how many bytes it has, and that its rows are plain and fit.
use Rattle.std.proofs.Common.{◌≡◌, ℕ, List, refl, arith, rules}
use Rattle.std.specs.List.{AllByRecursion}
use Rattle.vt_layout.specs.Rows.{size, IsRow, IsPlain}
use Rattle.vt_layout.specs.Entries.{IsOfType, entry_rows, linked_entry}
use Rattle.acpi_records.specs.declared.madt_entry.MadtEntry.{MadtEntry}
use Rattle.acpi_records.specs.declared.madt_entry.MadtEntry.TheVariants.{LocalApic, IoApic, Override, LocalNmi, X2Apic, X2ApicNmi, Other}
use Rattle.acpi_records.specs.MadtEntries.{madt_entry_of, madt_types, madt_entry, IsMadtEntry, IsFittingMadtEntry, madt_entry_size}

pub madt_entry_back : (e : MadtEntry) → madt_entry (madt_entry_of e) ≡ e
madt_entry_back (LocalApic e) = refl
madt_entry_back (IoApic e) = refl
madt_entry_back (Override e) = refl
madt_entry_back (LocalNmi e) = refl
madt_entry_back (X2Apic e) = refl
madt_entry_back (X2ApicNmi e) = refl
madt_entry_back (Other kind length) = refl

pub madt_entry_linked : (place_of : List ℕ → ℕ) (e : MadtEntry) → linked_entry place_of (madt_entry_of e) ≡ madt_entry_of e
madt_entry_linked place_of (LocalApic e) = refl
madt_entry_linked place_of (IoApic e) = refl
madt_entry_linked place_of (Override e) = refl
madt_entry_linked place_of (LocalNmi e) = refl
madt_entry_linked place_of (X2Apic e) = refl
madt_entry_linked place_of (X2ApicNmi e) = refl
madt_entry_linked place_of (Other kind length) = refl

pub madt_entry_typed : (e : MadtEntry) → IsMadtEntry e → IsOfType madt_types (madt_entry_of e)
madt_entry_typed (LocalApic e) is = refl
madt_entry_typed (IoApic e) is = refl
madt_entry_typed (Override e) is = refl
madt_entry_typed (LocalNmi e) is = refl
madt_entry_typed (X2Apic e) is = refl
madt_entry_typed (X2ApicNmi e) is = refl
madt_entry_typed (Other kind length) is = is

pub madt_entry_sized : (e : MadtEntry) → IsMadtEntry e → size (entry_rows (madt_entry_of e)) ≡ madt_entry_size e
madt_entry_sized (LocalApic e) is = refl
madt_entry_sized (IoApic e) is = refl
madt_entry_sized (Override e) is = refl
madt_entry_sized (LocalNmi e) is = refl
madt_entry_sized (X2Apic e) is = refl
madt_entry_sized (X2ApicNmi e) is = refl
madt_entry_sized (Other kind length) is = omega (arith, is.1)

pub madt_entry_plain : (e : MadtEntry) → AllByRecursion IsPlain (entry_rows (madt_entry_of e))
madt_entry_plain (LocalApic e) = search rules
madt_entry_plain (IoApic e) = search rules
madt_entry_plain (Override e) = search rules
madt_entry_plain (LocalNmi e) = search rules
madt_entry_plain (X2Apic e) = search rules
madt_entry_plain (X2ApicNmi e) = search rules
madt_entry_plain (Other kind length) = search rules

pub madt_entry_fits : (e : MadtEntry) → IsFittingMadtEntry e → AllByRecursion IsRow (entry_rows (madt_entry_of e))
madt_entry_fits (LocalApic e) fit = search (rules, fit.0, fit.1, fit.2)
madt_entry_fits (IoApic e) fit = search (rules, fit.0, fit.1, fit.2)
madt_entry_fits (Override e) fit = search (rules, fit.0, fit.1, fit.2, fit.3)
madt_entry_fits (LocalNmi e) fit = search (rules, fit.0, fit.1, fit.2)
madt_entry_fits (X2Apic e) fit = search (rules, fit.0, fit.1, fit.2)
madt_entry_fits (X2ApicNmi e) fit = search (rules, fit.0, fit.1, fit.2)
madt_entry_fits (Other kind length) fit = search (rules, fit.0, fit.1)
