-- A view shows one set of ACPI tables.
use Rattle.std.proofs.Common.{◌≡◌, ℕ, List, [], ◌∷◌, Option, inl, inr, refl, ap, sym, ◌∙◌, subst}
use Rattle.vt_bytes.specs.View.{View}
use Rattle.vt_bytes.proofs.AtMostOne.{IsOne, one_least}
use Rattle.acpi_records.specs.declared.header.Head.{Head}
use Rattle.acpi_model.specs.declared.acpi.AcpiTables.{AcpiTables}
use Rattle.acpi_model.specs.declared.acpi.OtherTable.{OtherTable}
use Rattle.acpi_model.specs.declared.acpi.Table.{Table}
use Rattle.acpi_model.specs.declared.acpi.FadtTargets.{FadtTargets}
use Rattle.acpi_model.specs.Found.{LeadTo}
use Rattle.acpi_model.specs.declared.form.Form.{Form}
use Rattle.acpi_model.specs.Form.{xsdt_form}
use Rattle.acpi_model.specs.Acpi.{IsAtBy, IsOther, WalksBy, Walks, AreAt, first_links, gathered, AreFoundBy, AreToldBy, LeadsToAcpiBy, ShowsAcpiBy}
use Rattle.acpi_model.specs.Xsdt.{IsRoot}
use Rattle.acpi_model.specs.Rsdp.{HasRsdpBy}
use Rattle.acpi_model.proofs.OneTable.{one_table}
use Rattle.acpi_model.proofs.OneLayout.{one_at}
use Rattle.acpi_model.proofs.KnownByForm.{same_known}
use Rattle.acpi_model.proofs.Xsdt.{one_root}
use Rattle.acpi_model.proofs.OneRsdp.{one_rsdp}
use Rattle.acpi_model.proofs.OneTarget.{one_target}

-- the table of another signature that stands at an address
other_from : List ℕ → ℕ → OtherTable
other_from signature length = record { signature = signature; length = length }

one_other : (view : View) (address : ℕ) → IsOne (IsOther view address)
unfolding other_from
one_other view address t u is also =
    let same =
    one_table view address t.signature u.signature t.length u.length is.head also.head [] [] is.stands also.stands (λ totals. refl) in
    ap (λ signature. other_from signature t.length) same.signatures ∙ ap (other_from u.signature) same.totals

-- no table of a known kind stands where one of another signature does
not_both : (form : Form) (view : View) (address : ℕ) (t : Table) (u : OtherTable) → IsAtBy form view address t → IsOther view address u → ⊥
not_both form view address t u is also =
    let signatures : is.layout.kind.signature ≡ u.signature = cc (is.stands.stands.shown.0, also.stands.shown.0) in
    same_known form xsdt_form u.signature is.layout.kind (cc (signatures, is.known)) also.unknown

-- what two walks find
pub record AreSame (tables more : List Table) (others rest : List OtherTable) : Type 0 where
  pub known : tables ≡ more
  pub unknown : others ≡ rest

pub one_walk : (form : Form) (view : View) (addresses : List ℕ) (tables more : List Table) (others rest : List OtherTable)
    → WalksBy form view addresses tables others → WalksBy form view addresses more rest → AreSame tables more others rest
one_walk form view [] tables more others rest is also = record { known = is.0 ∙ sym also.0; unknown = is.1 ∙ sym also.1 }
one_walk form view (address ∷ addresses) tables more others rest (inl (t, ts, at, are, walks)) (inl (u, us, here, also_are, walked)) =
    let same = one_walk form view addresses ts us others rest walks walked in
    let first = one_at form view address t u at here in
    record {
      known = are ∙ ap (λ (x : Table). x ∷ ts) first ∙ ap (λ those. u ∷ those) same.known ∙ sym also_are;
      unknown = same.unknown;
    }
one_walk form view (address ∷ addresses) tables more others rest (inl (t, ts, at, are, walks)) (inr (u, us, here, also_are, walked)) =
    absurd (not_both form view address t u at here)
one_walk form view (address ∷ addresses) tables more others rest (inr (t, ts, at, are, walks)) (inl (u, us, here, also_are, walked)) =
    absurd (not_both form view address u t here at)
one_walk form view (address ∷ addresses) tables more others rest (inr (t, ts, at, are, walks)) (inr (u, us, here, also_are, walked)) =
    let same = one_walk form view addresses tables more ts us walks walked in
    let first = one_other view address t u at here in
    record {
      known = same.known;
      unknown = are ∙ ap (λ (x : OtherTable). x ∷ ts) first ∙ ap (λ those. u ∷ those) same.unknown ∙ sym also_are;
    }

-- tables that stand at their addresses are walked
pub walked : (view : View) (addresses : List ℕ) (tables : List Table) → AreAt view addresses tables → Walks view addresses tables []
walked view [] [] stand = (refl, refl)
walked view [] (table ∷ tables) stand = absurd stand
walked view (address ∷ addresses) [] stand = absurd stand
walked view (address ∷ addresses) (table ∷ tables) stand = inl (table, tables, stand.0, refl, walked view addresses tables stand.1)

-- what is found at addresses
pub record AreFoundSame (tables more : List Table) (targets goals : FadtTargets) (others rest : List OtherTable) : Type 0 where
  pub known : tables ≡ more
  pub leads : targets ≡ goals
  pub unknown : others ≡ rest

pub one_found_all : (form : Form) (view : View) (addresses : List ℕ) (tables more : List Table) (targets goals : FadtTargets) (others rest : List OtherTable)
    → AreFoundBy form view addresses tables targets others → AreFoundBy form view addresses more goals rest → AreFoundSame tables more targets goals others rest
one_found_all form view addresses tables more targets goals others rest is also =
    let same = one_walk form view addresses tables more others rest is.named also.named in
    record {
      known = same.known;
      leads = one_target view (first_links more) targets goals (subst (λ those. LeadTo view (first_links those) targets) same.known is.lead) also.lead;
      unknown = same.unknown;
    }

-- the tables at addresses tell one thing, with one maker's id and one header of the XSDT
pub one_told : (form : Form) (view : View) (addresses : List ℕ) (s t : AcpiTables) (g h : Option (List ℕ)) → s.oem_id ≡ t.oem_id → s.xsdt ≡ t.xsdt
    → AreToldBy form view addresses s g → AreToldBy form view addresses t h → (s ≡ t) × (g ≡ h)
one_told form view addresses s t g h ids headers is also =
    let same = one_found_all form view addresses is.tables also.tables is.targets also.targets s.others t.others is.found also.found in (
      is.told ∙ ap (λ id. gathered id s.xsdt is.tables is.targets s.others) ids
          ∙ ap (λ (h : Head). gathered t.oem_id h is.tables is.targets s.others) headers
          ∙ ap (λ tables. gathered t.oem_id t.xsdt tables is.targets s.others) same.known
          ∙ ap (λ targets. gathered t.oem_id t.xsdt also.tables targets s.others) same.leads
          ∙ ap (gathered t.oem_id t.xsdt also.tables also.targets) same.unknown ∙ sym also.told,
      is.its_id ∙ ap (λ (targets : FadtTargets). targets.generation) same.leads ∙ sym also.its_id,
    )

-- an RSDP leads to one set of tables, and to one id of a generation or none
pub one_led : (form : Form) (view : View) (rsdp : ℕ) (s t : AcpiTables) (g h : Option (List ℕ)) → LeadsToAcpiBy form view rsdp s g
    → LeadsToAcpiBy form view rsdp t h
    → (s ≡ t) × (g ≡ h)
one_led form view rsdp s t g h is also =
    let root = one_rsdp form view rsdp s.oem_id t.oem_id is.xsdt also.xsdt is.valid also.valid in
    let listed =
    one_root form view also.xsdt s.xsdt t.xsdt is.addresses also.addresses (subst (λ a. IsRoot form view a s.xsdt is.addresses) root.1 is.listed)
    also.listed in
    one_told form view also.addresses s t g h root.0 listed.0 (subst (λ addresses. AreToldBy form view addresses s g) listed.1 is.tables) also.tables

pub one_acpi : (form : Form) (view : View) (s t : AcpiTables) (g h : Option (List ℕ)) → ShowsAcpiBy form view s g → ShowsAcpiBy form view t h
    → (s ≡ t) × (g ≡ h)
one_acpi form view s t g h is also =
    let place : is.rsdp ≡ also.rsdp =
    one_least (HasRsdpBy form view) is.rsdp also.rsdp (s.oem_id, is.leads.xsdt, is.leads.valid) (t.oem_id, also.leads.xsdt, also.leads.valid) is.least
    also.least in
    one_led form view also.rsdp s t g h (subst (λ a. LeadsToAcpiBy form view a s g) place is.leads) also.leads
