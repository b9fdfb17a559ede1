-- What is told of tables, wherever their pointers lead.
use Rattle.std.proofs.Common.{◌≡◌, ℕ, Bool, true, false, List, [], ◌∷◌, map, cond, Option, Some, None, option_map, option_and_then, refl, ap, ◌∙◌}
use Rattle.std.specs.Str.{bytes_eq}
use Rattle.acpi_records.specs.declared.header.Head.{Head}
use Rattle.acpi_records.specs.declared.fadt.Fadt.{Fadt as FadtRecord}
use Rattle.acpi_records.specs.declared.madt.Madt.{Madt as MadtRecord}
use Rattle.acpi_records.specs.declared.srat.Srat.{Srat as SratRecord}
use Rattle.acpi_records.specs.declared.slit.Slit.{Slit as SlitRecord}
use Rattle.acpi_records.specs.declared.mcfg.Mcfg.{Mcfg as McfgRecord}
use Rattle.acpi_records.specs.declared.hpet.HpetTable.{HpetTable}
use Rattle.acpi_model.specs.declared.acpi.AcpiTables.{AcpiTables}
use Rattle.acpi_model.specs.declared.acpi.FadtTargets.{FadtTargets}
use Rattle.acpi_model.specs.declared.acpi.OtherTable.{OtherTable}
use Rattle.acpi_model.specs.declared.acpi.Table.{Table}
use Rattle.acpi_model.specs.Kinds.{Kind}
use Rattle.acpi_model.specs.SratKind.{srat_kind, as_srat}
use Rattle.acpi_model.specs.SlitKind.{slit_kind, as_slit}
use Rattle.acpi_model.specs.McfgKind.{mcfg_kind, as_mcfg}
use Rattle.acpi_model.specs.HpetKind.{hpet_kind, as_hpet}
use Rattle.acpi_model.specs.FadtKind.{fadt_kind, as_fadt}
use Rattle.acpi_model.specs.MadtKind.{madt_kind, as_madt}
use Rattle.acpi_model.specs.Acpi.{signature_of, linked_table, first_with, first_of, gathered}
use Rattle.acpi_model.proofs.Known.{signature-linked, fadt-linked, madt-linked, srat-linked, slit-linked, mcfg-linked, hpet-linked}

first_there : (place_of : List ℕ → ℕ) (table : Table) (is : Bool) (more less : Option Table) → more ≡ option_map (linked_table place_of) less
    → cond is (Some (linked_table place_of table)) more ≡ option_map (linked_table place_of) (cond is (Some table) less)
first_there place_of table true more less same = refl
first_there place_of table false more less same = same

-- the first of a signature is the same one
pub first-linked : (place_of : List ℕ → ℕ) (signature : List ℕ) (tables : List Table)
    → first_with signature (map (linked_table place_of) tables) ≡ option_map (linked_table place_of) (first_with signature tables)
first-linked place_of signature [] = refl
first-linked place_of signature (table ∷ tables) =
    ap (λ s. cond (bytes_eq s signature) (Some (linked_table place_of table)) (first_with signature (map (linked_table place_of) tables)))
    (signature-linked place_of table)
    ∙ first_there place_of table (bytes_eq (signature_of table) signature) (first_with signature (map (linked_table place_of) tables))
    (first_with signature tables) (first-linked place_of signature tables)

same_record : {T : Type 0} (place_of : List ℕ → ℕ) (as_kind : Table → Option T) → ((table : Table) → as_kind (linked_table place_of table) ≡ as_kind table)
    → (first : Option Table) → option_and_then as_kind (option_map (linked_table place_of) first) ≡ option_and_then as_kind first
same_record place_of as_kind same None = refl
same_record place_of as_kind same (Some table) = same table

-- so is its record, of a kind whose records don't tell where pointers lead
pub first_of-linked : {T : Type 0} (place_of : List ℕ → ℕ) (kind : Kind) (as_kind : Table → Option T)
    → ((table : Table) → as_kind (linked_table place_of table) ≡ as_kind table) → (tables : List Table)
    → first_of kind as_kind (map (linked_table place_of) tables) ≡ first_of kind as_kind tables
first_of-linked place_of kind as_kind same tables =
    ap (option_and_then as_kind) (first-linked place_of kind.signature tables)
    ∙ same_record place_of as_kind same (first_with kind.signature tables)

-- what is told, with these records of the kinds
unfoldable pub told_with : Option FadtRecord → Option MadtRecord → Option SratRecord → Option SlitRecord → Option McfgRecord → Option HpetTable
    → List ℕ → Head → FadtTargets
    → List OtherTable → AcpiTables
told_with fadt madt srat slit mcfg hpet oem_id xsdt targets others = record {
  oem_id = oem_id;
  xsdt = xsdt;
  fadt = fadt;
  facs = targets.facs;
  dsdt = targets.dsdt;
  madt = madt;
  srat = srat;
  slit = slit;
  mcfg = mcfg;
  hpet = hpet;
  others = others;
}

-- the same records tell the same
pub told_same : {fadt fadt2 : Option FadtRecord} {madt madt2 : Option MadtRecord} {srat srat2 : Option SratRecord} {slit slit2 : Option SlitRecord}
    {mcfg mcfg2 : Option McfgRecord} {hpet hpet2 : Option HpetTable} (oem_id : List ℕ) (xsdt : Head) (targets : FadtTargets) (others : List OtherTable)
    → fadt ≡ fadt2 → madt ≡ madt2 → srat ≡ srat2 → slit ≡ slit2 → mcfg ≡ mcfg2 → hpet ≡ hpet2
    → told_with fadt madt srat slit mcfg hpet oem_id xsdt targets others ≡ told_with fadt2 madt2 srat2 slit2 mcfg2 hpet2 oem_id xsdt targets others
told_same oem_id xsdt targets others fadts madts srats slits mcfgs hpets = cc

-- wherever the pointers of tables lead, they tell the same
pub gathered-linked : (place_of : List ℕ → ℕ) (oem_id : List ℕ) (xsdt : Head) (tables : List Table) (targets : FadtTargets) (others : List OtherTable)
    → gathered oem_id xsdt (map (linked_table place_of) tables) targets others ≡ gathered oem_id xsdt tables targets others
unfolding told_with
gathered-linked place_of oem_id xsdt tables targets others =
    told_same oem_id xsdt targets others
    (first_of-linked place_of fadt_kind as_fadt (fadt-linked place_of) tables)
    (first_of-linked place_of madt_kind as_madt (madt-linked place_of) tables)
    (first_of-linked place_of srat_kind as_srat (srat-linked place_of) tables)
    (first_of-linked place_of slit_kind as_slit (slit-linked place_of) tables)
    (first_of-linked place_of mcfg_kind as_mcfg (mcfg-linked place_of) tables)
    (first_of-linked place_of hpet_kind as_hpet (hpet-linked place_of) tables)
