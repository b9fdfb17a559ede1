-- What a guest looks for in its memory (ACPI 6.5, 5.2.5.1; DMTF DSP0134, version 3.0.0, 5.2).
use Rattle.std.specs.Prelude.{◌≡◌, ℕ, ◌<◌, Bool, if◌then◌else◌}
use Rattle.vt_bytes.specs.View.{View}
use Rattle.acpi_model.specs.declared.form.Form.{Form}
use Rattle.acpi_model.specs.Form.{form_of}
use Rattle.acpi_model.specs.Rsdp.{HasRsdpBy}
use Rattle.smbios_model.specs.declared.anchor.AnchorForm.{AnchorForm}
use Rattle.smbios_model.specs.declared.anchor.AnchorForm.TheVariants.{Smbios2, Smbios3}
use Rattle.smbios_model.specs.Anchor.{HasAnchorBy}
use Rattle.table_model.specs.declared.search.Search.{Search}
use Rattle.table_model.specs.declared.search.RootSearch.{RootSearch}
use Rattle.table_model.specs.declared.search.RootSearch.TheVariants as root
use Rattle.table_model.specs.declared.search.AnchorSearch.{AnchorSearch}
use Rattle.table_model.specs.declared.search.AnchorSearch.TheVariants as anchor

-- an RSDP of the form is looked for
abbrev pub IsSoughtRoot : RootSearch → Form → Type 0
IsSoughtRoot (root.One form) other = other ≡ form
IsSoughtRoot root.Any other = other.least_fadt ≡ 116

-- an anchor of the form is looked for
abbrev pub IsSoughtAnchor : AnchorSearch → AnchorForm → Type 0
IsSoughtAnchor (anchor.One form) other = other ≡ form
IsSoughtAnchor anchor.Any other = Unit {0}

-- no valid RSDP that is looked for stands anywhere, or below an address
abbrev pub HasNoRoot : RootSearch → View → Type 0
HasNoRoot search view = (form : Form) → IsSoughtRoot search form → (address : ℕ) → HasRsdpBy form view address → ⊥

abbrev pub HasNoRootBelow : RootSearch → View → ℕ → Type 0
HasNoRootBelow search view end =
    (form : Form) → IsSoughtRoot search form → (address : ℕ) → address < end → HasRsdpBy form view address → ⊥

-- and no valid anchor
abbrev pub HasNoAnchorOf : AnchorSearch → View → Type 0
HasNoAnchorOf search view = (form : AnchorForm) → IsSoughtAnchor search form → (address : ℕ) → HasAnchorBy form view address → ⊥

abbrev pub HasNoAnchorBelow : AnchorSearch → View → ℕ → Type 0
HasNoAnchorBelow search view end =
    (form : AnchorForm) → IsSoughtAnchor search form → (address : ℕ) → address < end → HasAnchorBy form view address → ⊥

-- the old anchor, or the 64-bit entry point
abbrev pub anchor_form_of : Bool → AnchorForm
anchor_form_of smbios2 = if smbios2 then Smbios2 else Smbios3

-- the search for legacy tables or those of ACPI 6.5, and for the old anchor or the 64-bit entry point
abbrev pub search_of : Bool → Bool → Search
search_of legacy smbios2 = record { root = root.One (form_of legacy); anchor = anchor.One (anchor_form_of smbios2) }

-- the search for the first anchors of any form
abbrev pub any_search : Search
any_search = record { root = root.Any; anchor = anchor.Any }
