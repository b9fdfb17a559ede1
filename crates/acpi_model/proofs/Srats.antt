-- SRATs: their rows, behind which entries stand.
use Rattle.std.proofs.Common.{◌≡◌, ◌+◌, ◌≤◌, List, [], ◌∷◌, map, arith, rules, refl, sym, subst}
use Rattle.std.specs.List.{AllByRecursion}
use Rattle.vt_bytes.proofs.Each.{each_append}
use Rattle.vt_layout.specs.Rows.{size}
use Rattle.vt_layout.specs.Entries.{IsOfType, entry_rows, entries_rows}
use Rattle.vt_layout.proofs.Entries.{list_linked, list_typed}
use Rattle.acpi_records.specs.declared.srat.Srat.{Srat}
use Rattle.acpi_records.specs.declared.srat_entry.SratEntry.{SratEntry}
use Rattle.acpi_records.specs.declared.srat_entry.SratEntry.TheVariants.{Apic, Memory, X2Apic, Other}
use Rattle.acpi_records.specs.SratEntries.{srat_entry_of, srat_types, IsSratEntry}
use Rattle.acpi_records.proofs.EachSratEntry.{srat_entry_linked, srat_entry_typed}
use Rattle.acpi_model.specs.declared.acpi.Table.TheVariants.{Srat as SratVariant}
use Rattle.acpi_model.specs.Kinds.{IsBodyRow, rows_behind}
use Rattle.acpi_model.specs.SratKind.{srat_layout}
use Rattle.acpi_model.specs.Acpi.{IsWritable}

-- an entry has neither a checksum nor a pointer
entry_body : (e : SratEntry) → AllByRecursion IsBodyRow (entry_rows (srat_entry_of e))
entry_body (Apic e) = search rules
entry_body (Memory e) = search rules
entry_body (X2Apic e) = search rules
entry_body (Other kind length) = search rules

entries_body : (entries : List SratEntry) → AllByRecursion IsBodyRow (entries_rows (map srat_entry_of entries))
entries_body [] = tt
entries_body (e ∷ entries) =
    each_append IsBodyRow (entry_rows (srat_entry_of e)) (entries_rows (map srat_entry_of entries)) (entry_body e) (entries_body entries)

-- An SRAT has 12 bytes behind its header, and its entries.
pub size-srat : (t : Srat) → size (rows_behind (srat_layout t)) ≡ 12 + size (entries_rows (map srat_entry_of t.entries))
size-srat t = omega arith

-- It can be written where its entries can stand in a table and are few.
pub srat_writable : (t : Srat) → AllByRecursion IsSratEntry t.entries → size (rows_behind (srat_layout t)) ≤ 0x1000000 → IsWritable (SratVariant t)
srat_writable t kept few = record {
  lawful = record {
    shaped = λ place_of view address held. refl;
    typed = λ place_of.
        subst (AllByRecursion (IsOfType srat_types)) (sym (list_linked srat_entry_of place_of (srat_entry_linked place_of) t.entries))
        (list_typed srat_types srat_entry_of IsSratEntry srat_entry_typed t.entries kept);
    few = few;
    rows = (tt, (tt, entries_body t.entries));
  };
  lead = tt;
}

-- The entries of one that can be written can stand in a table.
kept_entry : (e : SratEntry) → IsOfType srat_types (srat_entry_of e) → IsSratEntry e
kept_entry (Apic e) typed = tt
kept_entry (Memory e) typed = tt
kept_entry (X2Apic e) typed = tt
kept_entry (Other kind length) typed = typed

kept_entries : (entries : List SratEntry) → AllByRecursion (IsOfType srat_types) (map srat_entry_of entries) → AllByRecursion IsSratEntry entries
kept_entries [] typed = tt
kept_entries (e ∷ entries) typed = (kept_entry e typed.0, kept_entries entries typed.1)

pub srat_kept : (t : Srat) → IsWritable (SratVariant t) → AllByRecursion IsSratEntry t.entries
srat_kept t writable =
    kept_entries t.entries
    (subst (AllByRecursion (IsOfType srat_types)) (list_linked srat_entry_of (λ name. 0) (srat_entry_linked (λ name. 0)) t.entries)
    (writable.lawful.typed (λ name. 0)))
