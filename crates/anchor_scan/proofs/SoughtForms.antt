-- The forms that a search for any form looks for are two, of RSDPs and of anchors of SMBIOS structures.
use Rattle.std.proofs.Common.{◌≡◌, ℕ, Bool, true, false, ◌⊎◌, inl, inr, refl, ap}
use Rattle.acpi_model.specs.declared.form.Form.{Form}
use Rattle.acpi_model.specs.Form.{legacy_form}
use Rattle.smbios_model.specs.declared.anchor.AnchorForm.{AnchorForm}
use Rattle.smbios_model.specs.declared.anchor.AnchorForm.TheVariants.{Smbios2, Smbios3}
use Rattle.table_model.specs.declared.search.RootSearch.TheVariants as root
use Rattle.table_model.specs.declared.search.AnchorSearch.TheVariants as anchor
use Rattle.table_model.specs.Search.{IsSoughtRoot, IsSoughtAnchor}
use Rattle.anchor_scan.proofs.FirstOf.{AreAll}

-- the form of an extended RSDP, and of an FADT of 116 bytes or more
abbrev pub extended_form : Form
extended_form = record { extended = true; least_fadt = 116 }

-- the form of these parts
abbrev form_from : Bool → ℕ → Form
form_from extended least_fadt = record { extended = extended; least_fadt = least_fadt }

either_root : (extended : Bool) (least_fadt : ℕ) → least_fadt ≡ 116
    → (form_from extended least_fadt ≡ legacy_form) ⊎ (form_from extended least_fadt ≡ extended_form)
either_root true least_fadt same = inr (ap (form_from true) same)
either_root false least_fadt same = inl (ap (form_from false) same)

pub root_forms : AreAll (IsSoughtRoot root.Any) legacy_form extended_form
root_forms = record { one = refl; other = refl; all = λ form sought. either_root form.extended form.least_fadt sought }

either_anchor : (form : AnchorForm) → (form ≡ Smbios2) ⊎ (form ≡ Smbios3)
either_anchor Smbios2 = inl refl
either_anchor Smbios3 = inr refl

pub anchor_forms : AreAll (IsSoughtAnchor anchor.Any) Smbios2 Smbios3
anchor_forms = record { one = tt; other = tt; all = λ form sought. either_anchor form }
