-- What is shown by one form is shown by the search for it.
use Rattle.std.proofs.Common.{ℕ, List, Option, refl, subst}
use Rattle.vt_bytes.specs.View.{View}
use Rattle.acpi_model.specs.declared.form.Form.{Form}
use Rattle.acpi_model.specs.declared.acpi.AcpiTables.{AcpiTables}
use Rattle.acpi_model.specs.Rsdp.{HasRsdpBy}
use Rattle.acpi_model.specs.Acpi.{ShowsAcpiBy}
use Rattle.smbios_model.specs.declared.anchor.AnchorForm.{AnchorForm}
use Rattle.smbios_model.specs.declared.smbios.SmbiosTable.{SmbiosTable}
use Rattle.smbios_model.specs.Anchor.{HasAnchorBy}
use Rattle.smbios_model.specs.Smbios.{ShowsSmbiosBy}
use Rattle.table_model.specs.declared.search.RootSearch.TheVariants as root
use Rattle.table_model.specs.declared.search.AnchorSearch.TheVariants as anchor
use Rattle.table_model.specs.Search.{HasNoRoot, HasNoAnchorOf}
use Rattle.table_model.specs.Inventory.{ShowsTablesOf, ShowsStructuresOf}

pub tables_of_one : (form : Form) (view : View) (t : AcpiTables) (id : Option (List ℕ)) → ShowsAcpiBy form view t id
    → ShowsTablesOf (root.One form) view t id
tables_of_one form view t id shows = record {
  form = form;
  sought = refl;
  shown = shows;
  first = λ other is address below has. shows.least address below (subst (λ f. HasRsdpBy f view address) is has);
}

pub no_root_of_one : (form : Form) (view : View) → ((address : ℕ) → HasRsdpBy form view address → ⊥) → HasNoRoot (root.One form) view
no_root_of_one form view none other is address has = none address (subst (λ f. HasRsdpBy f view address) is has)

pub structures_of_one : (form : AnchorForm) (view : View) (t : SmbiosTable) → ShowsSmbiosBy form view t
    → ShowsStructuresOf (anchor.One form) view t
structures_of_one form view t shows = record {
  form = form;
  sought = refl;
  shown = shows;
  first = λ other is address below has. shows.least address below (subst (λ f. HasAnchorBy f view address) is has);
}

pub no_anchor_of_one : (form : AnchorForm) (view : View) → ((address : ℕ) → HasAnchorBy form view address → ⊥)
    → HasNoAnchorOf (anchor.One form) view
no_anchor_of_one form view none other is address has = none address (subst (λ f. HasAnchorBy f view address) is has)
