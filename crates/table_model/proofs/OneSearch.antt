-- The first RSDP that a search looks for is one, with its form, and so is the first anchor of SMBIOS structures.
use Rattle.std.proofs.Common.{◌≡◌, ℕ, ◌+◌, ◌<◌, Bool, true, false, Some, codes, slice_index, refl, arith, ap, sym, subst, ◌∙◌}
use Rattle.std.proofs.lemmas.Bool.Decides.{nat_tests}
use Rattle.vt_bytes.specs.View.{View}
use Rattle.vt_bytes.proofs.AtMostOne.{one_least}
use Rattle.vt_bytes.proofs.Views.{ram-shown}
use Rattle.acpi_model.specs.declared.form.Form.{Form}
use Rattle.acpi_model.specs.Form.{has_revision}
use Rattle.acpi_model.specs.Rsdp.{HasRsdpBy}
use Rattle.smbios_model.specs.declared.anchor.AnchorForm.{AnchorForm}
use Rattle.smbios_model.specs.declared.anchor.AnchorForm.TheVariants.{Smbios2, Smbios3}
use Rattle.smbios_model.specs.Anchor.{HasAnchorBy}
use Rattle.table_model.specs.declared.search.RootSearch.{RootSearch}
use Rattle.table_model.specs.declared.search.RootSearch.TheVariants as root
use Rattle.table_model.specs.declared.search.AnchorSearch.{AnchorSearch}
use Rattle.table_model.specs.declared.search.AnchorSearch.TheVariants as anchor
use Rattle.table_model.specs.Search.{IsSoughtRoot, IsSoughtAnchor, HasNoRootBelow, HasNoAnchorBelow}

-- something of a form that is looked for stands at the address
record IsAt {F : Type 0} (IsSought : F → Type 0) (Stands : F → ℕ → Type 0) (address : ℕ) : Type 0 where
  form : F
  sought : IsSought form
  stands : Stands form address

-- Where one form at most stands at each address, the first that stands is one, and of one form.
one_first : {F : Type 0} (IsSought : F → Type 0) (Stands : F → ℕ → Type 0)
    → ((address : ℕ) (a b : F) → IsSought a → IsSought b → Stands a address → Stands b address → a ≡ b)
    → (a b : F) (p q : ℕ) → IsSought a → IsSought b → Stands a p → Stands b q
    → ((form : F) → IsSought form → (address : ℕ) → address < p → Stands form address → ⊥)
    → ((form : F) → IsSought form → (address : ℕ) → address < q → Stands form address → ⊥) → (p ≡ q) × (a ≡ b)
one_first IsSought Stands one_form a b p q sought looked_for is also first also_first =
    let place : p ≡ q =
    one_least (IsAt IsSought Stands) p q (record { form = a; sought = sought; stands = is }) (record { form = b; sought = looked_for; stands = also })
    (λ address below at. first at.form at.sought address below at.stands) (λ address below at. also_first at.form at.sought address below at.stands) in
    (place, one_form q a b sought looked_for (subst (Stands a) place is) also)

-- the form of these parts
form_from : Bool → ℕ → Form
form_from extended least_fadt = record { extended = extended; least_fadt = least_fadt }

-- a revision tells whether its RSDP is an extended one
one_kind : (a b : Bool) (least revision : ℕ) → has_revision (record { extended = a; least_fadt = least }) revision ≡ true
    → has_revision (record { extended = b; least_fadt = least }) revision ≡ true → a ≡ b
one_kind true true least revision is also = refl
one_kind true false least revision is also = absurd (grind (arith, nat_tests))
one_kind false true least revision is also = absurd (grind (arith, nat_tests))
one_kind false false least revision is also = refl

-- The revision stands at one place in an RSDP of each form, and so the forms of two that stand at one address agree in what it tells.
one_revision : (view : View) (address : ℕ) (a b : Form) → HasRsdpBy a view address → HasRsdpBy b view address → a.extended ≡ b.extended
one_revision view address a b is also =
    let revisions : is.2.revision ≡ also.2.revision = cc (is.2.shown.1.1.1.0, also.2.shown.1.1.1.0) in
    one_kind a.extended b.extended 0 also.2.revision (subst (λ revision. has_revision a revision ≡ true) revisions is.2.revised) also.2.revised

-- at one address a valid RSDP of at most one form stands that is looked for
one_root_form : (search : RootSearch) (view : View) (address : ℕ) (a b : Form) → IsSoughtRoot search a → IsSoughtRoot search b
    → HasRsdpBy a view address → HasRsdpBy b view address → a ≡ b
unfolding form_from
one_root_form (root.One form) view address a b sought looked_for is also = sought ∙ sym looked_for
one_root_form root.Any view address a b sought looked_for is also =
    ap (λ extended. form_from extended a.least_fadt) (one_revision view address a b is also)
    ∙ ap (form_from b.extended) (sought ∙ sym looked_for)

pub one_root : (search : RootSearch) (view : View) (a b : Form) (p q : ℕ) → IsSoughtRoot search a → IsSoughtRoot search b
    → HasRsdpBy a view p → HasRsdpBy b view q → HasNoRootBelow search view p → HasNoRootBelow search view q → (p ≡ q) × (a ≡ b)
one_root search view =
    one_first (IsSoughtRoot search) (λ form address. HasRsdpBy form view address) (λ address a b. one_root_form search view address a b)

-- the mark of a 64-bit entry point isn't that of an old anchor: they differ in their fourth byte
not_both : (view : View) (address : ℕ) → HasAnchorBy Smbios3 view address → HasAnchorBy Smbios2 view address → ⊥
not_both view address is also =
    let mark : view (address + 3) ≡ Some (slice_index (codes "_SM3_") 3) = ram-shown view address 5 (codes "_SM3_") 3 is.2.shown.0 (omega arith) in
    let old : view (address + 3) ≡ Some (slice_index (codes "_SM_") 3) = ram-shown view address 4 (codes "_SM_") 3 also.2.shown.front.0 (omega arith) in
    cc

-- at one address a valid anchor of at most one form stands
one_form : (view : View) (address : ℕ) (a b : AnchorForm) → HasAnchorBy a view address → HasAnchorBy b view address → a ≡ b
one_form view address Smbios3 Smbios3 is also = refl
one_form view address Smbios3 Smbios2 is also = absurd (not_both view address is also)
one_form view address Smbios2 Smbios3 is also = absurd (not_both view address also is)
one_form view address Smbios2 Smbios2 is also = refl

pub one_anchor : (search : AnchorSearch) (view : View) (a b : AnchorForm) (p q : ℕ) → IsSoughtAnchor search a → IsSoughtAnchor search b
    → HasAnchorBy a view p → HasAnchorBy b view q → HasNoAnchorBelow search view p → HasNoAnchorBelow search view q → (p ≡ q) × (a ≡ b)
one_anchor search view =
    one_first (IsSoughtAnchor search) (λ form address. HasAnchorBy form view address)
    (λ address a b sought looked_for is also. one_form view address a b is also)
