-- MADTs: their rows, behind which entries stand.
use Rattle.std.proofs.Common.{◌≡◌, ◌+◌, ◌≤◌, List, [], ◌∷◌, map, arith, rules, refl, sym, subst}
use Rattle.std.specs.List.{AllByRecursion}
use Rattle.vt_bytes.proofs.Each.{each_append}
use Rattle.vt_layout.specs.Rows.{size}
use Rattle.vt_layout.specs.Entries.{IsOfType, entry_rows, entries_rows}
use Rattle.vt_layout.proofs.Entries.{list_linked, list_typed}
use Rattle.acpi_records.specs.declared.madt.Madt.{Madt}
use Rattle.acpi_records.specs.declared.madt_entry.MadtEntry.{MadtEntry}
use Rattle.acpi_records.specs.declared.madt_entry.MadtEntry.TheVariants.{LocalApic, IoApic, Override, LocalNmi, X2Apic, X2ApicNmi, Other}
use Rattle.acpi_records.specs.Header.{body_rows}
use Rattle.acpi_records.specs.Madt.{madt_front_fields, madt_front_of}
use Rattle.acpi_records.specs.MadtEntries.{madt_entry_of, madt_types, IsMadtEntry}
use Rattle.acpi_records.proofs.EachMadtEntry.{madt_entry_linked, madt_entry_typed}
use Rattle.acpi_model.specs.declared.acpi.Table.TheVariants.{Madt as MadtVariant}
use Rattle.acpi_model.specs.Kinds.{IsBodyRow, rows_behind}
use Rattle.acpi_model.specs.MadtKind.{madt_layout}
use Rattle.acpi_model.specs.Acpi.{IsWritable}
use Rattle.acpi_model.proofs.BodyRows.{readable_body}

-- an entry is neither a checksum nor a pointer
entry_body : (e : MadtEntry) → AllByRecursion IsBodyRow (entry_rows (madt_entry_of e))
entry_body (LocalApic e) = search rules
entry_body (IoApic e) = search rules
entry_body (Override e) = search rules
entry_body (LocalNmi e) = search rules
entry_body (X2Apic e) = search rules
entry_body (X2ApicNmi e) = search rules
entry_body (Other kind length) = search rules

entries_body : (entries : List MadtEntry) → AllByRecursion IsBodyRow (entries_rows (map madt_entry_of entries))
entries_body [] = tt
entries_body (e ∷ entries) =
    each_append IsBodyRow (entry_rows (madt_entry_of e)) (entries_rows (map madt_entry_of entries)) (entry_body e) (entries_body entries)

-- A MADT has 8 bytes behind its header, and its entries.
pub size-madt : (t : Madt) → size (rows_behind (madt_layout t)) ≡ 8 + size (entries_rows (map madt_entry_of t.entries))
size-madt t = omega arith

-- It can be written where its entries can stand in a table and are few.
pub madt_writable : (t : Madt) → AllByRecursion IsMadtEntry t.entries → size (rows_behind (madt_layout t)) ≤ 0x1000000 → IsWritable (MadtVariant t)
madt_writable t kept few = record {
  lawful = record {
    shaped = λ place_of view address held. refl;
    typed = λ place_of.
        subst (AllByRecursion (IsOfType madt_types)) (sym (list_linked madt_entry_of place_of (madt_entry_linked place_of) t.entries))
        (list_typed madt_types madt_entry_of IsMadtEntry madt_entry_typed t.entries kept);
    few = few;
    rows = each_append IsBodyRow (body_rows (madt_front_fields (madt_front_of t))) (entries_rows (map madt_entry_of t.entries))
        (readable_body (madt_front_fields (madt_front_of t)) refl)
        (entries_body t.entries);
  };
  lead = tt;
}

-- The entries of one that can be written can stand in a table.
kept_entry : (e : MadtEntry) → IsOfType madt_types (madt_entry_of e) → IsMadtEntry e
kept_entry (LocalApic e) typed = tt
kept_entry (IoApic e) typed = tt
kept_entry (Override e) typed = tt
kept_entry (LocalNmi e) typed = tt
kept_entry (X2Apic e) typed = tt
kept_entry (X2ApicNmi e) typed = tt
kept_entry (Other kind length) typed = typed

kept_entries : (entries : List MadtEntry) → AllByRecursion (IsOfType madt_types) (map madt_entry_of entries) → AllByRecursion IsMadtEntry entries
kept_entries [] typed = tt
kept_entries (e ∷ entries) typed = (kept_entry e typed.0, kept_entries entries typed.1)

pub madt_kept : (t : Madt) → IsWritable (MadtVariant t) → AllByRecursion IsMadtEntry t.entries
madt_kept t writable =
    kept_entries t.entries
    (subst (AllByRecursion (IsOfType madt_types)) (list_linked madt_entry_of (λ name. 0) (madt_entry_linked (λ name. 0)) t.entries)
    (writable.lawful.typed (λ name. 0)))
