-- A view shows one inventory by a search.
use Rattle.std.proofs.Common.{◌≡◌, ℕ, List, Option, Some, None, refl, ap, sym, subst, ◌∙◌}
use Rattle.vt_bytes.specs.View.{View}
use Rattle.vt_bytes.proofs.AtMostOne.{IsOne, one_or_none}
use Rattle.acpi_model.specs.declared.acpi.AcpiTables.{AcpiTables}
use Rattle.acpi_model.specs.declared.form.Form.{Form}
use Rattle.acpi_model.specs.Rsdp.{HasRsdpBy}
use Rattle.acpi_model.specs.Acpi.{ShowsAcpiBy}
use Rattle.acpi_model.proofs.OneAcpi.{one_acpi}
use Rattle.smbios_model.specs.declared.anchor.AnchorForm.{AnchorForm}
use Rattle.smbios_model.specs.declared.smbios.SmbiosTable.{SmbiosTable}
use Rattle.smbios_model.specs.Anchor.{HasAnchorBy}
use Rattle.smbios_model.specs.Smbios.{ShowsSmbiosBy}
use Rattle.smbios_model.proofs.OneSmbios.{one_smbios}
use Rattle.table_model.specs.declared.inventory.Inventory.{Inventory}
use Rattle.table_model.specs.declared.search.Search.{Search}
use Rattle.table_model.specs.declared.search.RootSearch.{RootSearch}
use Rattle.table_model.specs.declared.search.AnchorSearch.{AnchorSearch}
use Rattle.table_model.specs.Search.{HasNoAnchorOf}
use Rattle.table_model.specs.Inventory.{ShowsTablesOf, ShowsTablesBy, ShowsStructuresOf, ShowsStructuresBy, ShowsBy}
use Rattle.table_model.proofs.OneSearch.{one_root, one_anchor}

-- the inventory of these parts
inventory_from : ℕ → Option SmbiosTable → Option AcpiTables → Option (List ℕ) → Inventory
inventory_from top smbios acpi generation = record { top = top; smbios = smbios; acpi = acpi; generation = generation }

-- tables that are shown have an RSDP, and structures an anchor
pub shown_root : (form : Form) (view : View) (t : AcpiTables) (id : Option (List ℕ)) (is : ShowsAcpiBy form view t id) → HasRsdpBy form view is.rsdp
shown_root form view t id is = (t.oem_id, is.leads.xsdt, is.leads.valid)

pub shown_anchor : (form : AnchorForm) (view : View) (t : SmbiosTable) (is : ShowsSmbiosBy form view t) → HasAnchorBy form view is.address
shown_anchor form view t is = (is.anchor, is.structures, is.valid)

-- one set of ACPI tables is shown, and one id
one_set : (search : RootSearch) (view : View) (a b : AcpiTables) (g h : Option (List ℕ)) → ShowsTablesOf search view a g
    → ShowsTablesOf search view b h → (a ≡ b) × (g ≡ h)
one_set search view a b g h is also =
    let same =
    one_root search view is.form also.form is.shown.rsdp also.shown.rsdp is.sought also.sought (shown_root is.form view a g is.shown)
    (shown_root also.form view b h also.shown) is.first also.first in
    one_acpi also.form view a b g h (subst (λ form. ShowsAcpiBy form view a g) same.1 is.shown) also.shown

one_set_or_none : (search : RootSearch) (view : View) (a b : Option AcpiTables) (g h : Option (List ℕ)) → ShowsTablesBy search view a g
    → ShowsTablesBy search view b h → (a ≡ b) × (g ≡ h)
one_set_or_none search view None None g h is also = (refl, is.1 ∙ sym also.1)
one_set_or_none search view None (Some t) g h is also =
    absurd (is.0 also.form also.sought also.shown.rsdp (shown_root also.form view t h also.shown))
one_set_or_none search view (Some t) None g h is also = absurd (also.0 is.form is.sought is.shown.rsdp (shown_root is.form view t g is.shown))
one_set_or_none search view (Some t) (Some u) g h is also =
    let same = one_set search view t u g h is also in
    (ap Some same.0, same.1)

-- and one table of SMBIOS structures
one_table : (search : AnchorSearch) (view : View) → IsOne (ShowsStructuresOf search view)
one_table search view a b is also =
    let same =
    one_anchor search view is.form also.form is.shown.address also.shown.address is.sought also.sought (shown_anchor is.form view a is.shown)
    (shown_anchor also.form view b also.shown) is.first also.first in
    one_smbios also.form view a b (subst (λ form. ShowsSmbiosBy form view a) same.1 is.shown) also.shown

pub one_table_or_none : (search : AnchorSearch) (view : View) → IsOne (ShowsStructuresBy search view)
one_table_or_none search view =
    one_or_none (HasNoAnchorOf search view) (ShowsStructuresOf search view) (one_table search view)
    (λ t shows none. none shows.form shows.sought shows.shown.address (shown_anchor shows.form view t shows.shown))

pub one_inventory : (search : Search) (top : ℕ) (view : View) → IsOne (ShowsBy search top view)
unfolding inventory_from
one_inventory search top view a b is also =
    let smbios = one_table_or_none search.anchor view a.smbios b.smbios is.smbios also.smbios in
    let acpi = one_set_or_none search.root view a.acpi b.acpi a.generation b.generation is.acpi also.acpi in
    ap (λ n. inventory_from n a.smbios a.acpi a.generation) (is.its_top ∙ sym also.its_top)
    ∙ ap (λ o. inventory_from b.top o a.acpi a.generation) smbios ∙ ap (λ o. inventory_from b.top b.smbios o a.generation) acpi.0
    ∙ ap (inventory_from b.top b.smbios b.acpi) acpi.1
