-- The first RSDP that a search looks for, and the first anchor of SMBIOS structures.
use Rattle.std.specs.Prelude.{ℕ, ◌<◌, Option, MatchOption}
use Rattle.vt_bytes.specs.View.{View}
use Rattle.acpi_model.specs.declared.form.Form.{Form}
use Rattle.acpi_model.specs.Rsdp.{HasRsdpBy}
use Rattle.smbios_model.specs.declared.anchor.AnchorForm.{AnchorForm}
use Rattle.smbios_model.specs.Anchor.{HasAnchorBy}
use Rattle.table_model.specs.declared.search.RootSearch.{RootSearch}
use Rattle.table_model.specs.declared.search.AnchorSearch.{AnchorSearch}
use Rattle.table_model.specs.Search.{IsSoughtRoot, IsSoughtAnchor, HasNoRoot, HasNoAnchorOf}
use Rattle.anchor_scan.specs.declared.sought_root.FoundRoot.{FoundRoot}
use Rattle.anchor_scan.specs.declared.sought_anchor.FoundAnchor.{FoundAnchor}

-- Something of a form that is looked for stands at the address, and below it nothing of any such form.
pub record IsFirstOf {F : Type 0} (IsSought : F → Type 0) (Stands : F → ℕ → Type 0) (form : F) (address : ℕ) : Type 0 where
  pub sought : IsSought form
  pub stands : Stands form address
  pub first : (other : F) → IsSought other → (below : ℕ) → below < address → Stands other below → ⊥

abbrev pub IsFirstRoot : RootSearch → View → Form → ℕ → Type 0
IsFirstRoot search view form address = IsFirstOf (IsSoughtRoot search) (λ other place. HasRsdpBy other view place) form address

abbrev pub IsFirstAnchorOf : AnchorSearch → View → AnchorForm → ℕ → Type 0
IsFirstAnchorOf search view form address = IsFirstOf (IsSoughtAnchor search) (λ other place. HasAnchorBy other view place) form address

-- the first RSDP was found, or none where no valid one stands that is looked for
abbrev pub IsFoundRoot : RootSearch → View → Option FoundRoot → Type 0
IsFoundRoot search view found =
    MatchOption found (HasNoRoot search view) (λ (root : FoundRoot). IsFirstRoot search view root.form root.address)

-- and the first anchor
abbrev pub IsFoundAnchor : AnchorSearch → View → Option FoundAnchor → Type 0
IsFoundAnchor search view found =
    MatchOption found (HasNoAnchorOf search view) (λ (anchor : FoundAnchor). IsFirstAnchorOf search view anchor.form anchor.address)
