-- What holds of each table of a known kind: it computes, whatever the kind is.
use Rattle.std.proofs.Common.{◌≡◌, ℕ, List, length, map, Some, refl, ap, ◌∙◌}
use Rattle.vt_layout.proofs.Entries.{list_back, list_linked}
use Rattle.acpi_records.specs.Madt.{madt_front_of, madt_of}
use Rattle.acpi_records.specs.MadtEntries.{madt_entry, madt_entry_of}
use Rattle.acpi_records.proofs.EachMadtEntry.{madt_entry_back, madt_entry_linked}
use Rattle.acpi_records.specs.Srat.{srat_front_of, srat_of}
use Rattle.acpi_records.specs.SratEntries.{srat_entry, srat_entry_of}
use Rattle.acpi_records.proofs.EachSratEntry.{srat_entry_back, srat_entry_linked}
use Rattle.acpi_model.proofs.Mcfgs.{linked_mcfg}
use Rattle.acpi_model.specs.declared.acpi.Table.{Table}
use Rattle.acpi_model.specs.declared.acpi.Table.TheVariants.{Fadt, Madt, Srat, Slit, Mcfg, Hpet}
use Rattle.acpi_model.specs.FadtKind.{as_fadt}
use Rattle.acpi_model.specs.MadtKind.{as_madt}
use Rattle.acpi_model.specs.SratKind.{as_srat}
use Rattle.acpi_model.specs.SlitKind.{as_slit}
use Rattle.acpi_model.specs.McfgKind.{as_mcfg}
use Rattle.acpi_model.specs.HpetKind.{as_hpet}
use Rattle.acpi_model.specs.Acpi.{kind_of, layout_of, signature_of, linked_table}

-- its kind is that of its signature
pub is_listed : (table : Table) → kind_of (signature_of table) ≡ Some (layout_of table).kind
is_listed (Fadt t links) = refl
is_listed (Madt t) = refl
is_listed (Srat t) = refl
is_listed (Slit t) = refl
is_listed (Mcfg t) = refl
is_listed (Hpet t) = refl

-- which has four bytes
pub length-signature : (table : Table) → length (signature_of table) ≡ 4
length-signature (Fadt t links) = refl
length-signature (Madt t) = refl
length-signature (Srat t) = refl
length-signature (Slit t) = refl
length-signature (Mcfg t) = refl
length-signature (Hpet t) = refl

-- where its pointers lead changes neither its signature nor what it tells
pub signature-linked : (place_of : List ℕ → ℕ) (table : Table) → signature_of (linked_table place_of table) ≡ signature_of table
signature-linked place_of (Fadt t links) = refl
signature-linked place_of (Madt t) = refl
signature-linked place_of (Srat t) = refl
signature-linked place_of (Slit t) = refl
signature-linked place_of (Mcfg t) = refl
signature-linked place_of (Hpet t) = refl

pub fadt-linked : (place_of : List ℕ → ℕ) (table : Table) → as_fadt (linked_table place_of table) ≡ as_fadt table
fadt-linked place_of (Fadt t links) = refl
fadt-linked place_of (Madt t) = refl
fadt-linked place_of (Srat t) = refl
fadt-linked place_of (Slit t) = refl
fadt-linked place_of (Mcfg t) = refl
fadt-linked place_of (Hpet t) = refl

-- its entries are got back from their rows
pub madt-linked : (place_of : List ℕ → ℕ) (table : Table) → as_madt (linked_table place_of table) ≡ as_madt table
madt-linked place_of (Fadt t links) = refl
madt-linked place_of (Madt t) =
    ap (λ entries. Some (madt_of (madt_front_of t) (map madt_entry entries))) (list_linked madt_entry_of place_of (madt_entry_linked place_of) t.entries)
    ∙ ap (λ entries. Some (madt_of (madt_front_of t) entries)) (list_back madt_entry_of madt_entry madt_entry_back t.entries)
madt-linked place_of (Srat t) = refl
madt-linked place_of (Slit t) = refl
madt-linked place_of (Mcfg t) = refl
madt-linked place_of (Hpet t) = refl

pub srat-linked : (place_of : List ℕ → ℕ) (table : Table) → as_srat (linked_table place_of table) ≡ as_srat table
srat-linked place_of (Fadt t links) = refl
srat-linked place_of (Madt t) = refl
srat-linked place_of (Srat t) =
    ap (λ entries. Some (srat_of (srat_front_of t) (map srat_entry entries))) (list_linked srat_entry_of place_of (srat_entry_linked place_of) t.entries)
    ∙ ap (λ entries. Some (srat_of (srat_front_of t) entries)) (list_back srat_entry_of srat_entry srat_entry_back t.entries)
srat-linked place_of (Slit t) = refl
srat-linked place_of (Mcfg t) = refl
srat-linked place_of (Hpet t) = refl

pub slit-linked : (place_of : List ℕ → ℕ) (table : Table) → as_slit (linked_table place_of table) ≡ as_slit table
slit-linked place_of (Fadt t links) = refl
slit-linked place_of (Madt t) = refl
slit-linked place_of (Srat t) = refl
slit-linked place_of (Slit t) = refl
slit-linked place_of (Mcfg t) = refl
slit-linked place_of (Hpet t) = refl

-- its allocations are got back from their rows
pub mcfg-linked : (place_of : List ℕ → ℕ) (table : Table) → as_mcfg (linked_table place_of table) ≡ as_mcfg table
mcfg-linked place_of (Fadt t links) = refl
mcfg-linked place_of (Madt t) = refl
mcfg-linked place_of (Srat t) = refl
mcfg-linked place_of (Slit t) = refl
mcfg-linked place_of (Mcfg t) = ap as_mcfg (linked_mcfg place_of t)
mcfg-linked place_of (Hpet t) = refl

pub hpet-linked : (place_of : List ℕ → ℕ) (table : Table) → as_hpet (linked_table place_of table) ≡ as_hpet table
hpet-linked place_of (Fadt t links) = refl
hpet-linked place_of (Madt t) = refl
hpet-linked place_of (Srat t) = refl
hpet-linked place_of (Slit t) = refl
hpet-linked place_of (Mcfg t) = refl
hpet-linked place_of (Hpet t) = refl
