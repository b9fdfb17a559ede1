-- What a memory shows from its anchors, or the first fault (DMTF DSP0134, version 3.0.0, 5.2.1 and 5.2.2; ACPI 6.5, 5.2.5).
use Rattle.std.specs.Prelude.{◌≡◌, ℕ, ◌<◌, ◌⊎◌, List, Option, Result, Err}
use Rattle.vt_bytes.specs.View.{View}
use Rattle.acpi_model.specs.declared.form.Form.{Form}
use Rattle.acpi_model.specs.Form.{xsdt_form}
use Rattle.acpi_model.specs.Rsdp.{HasRsdpBy}
use Rattle.smbios_model.specs.declared.anchor.Anchor.{Anchor}
use Rattle.smbios_model.specs.declared.anchor.AnchorForm.{AnchorForm}
use Rattle.smbios_model.specs.declared.anchor.AnchorForm.TheVariants.{Smbios3}
use Rattle.smbios_model.specs.declared.smbios.SmbiosTable.{SmbiosTable}
use Rattle.smbios_model.specs.Anchor.{IsAnchorBy, HasAnchorBy, IsRange}
use Rattle.smbios_decode.specs.declared.fault.SmbiosFault.{SmbiosFault}
use Rattle.smbios_decode.specs.declared.fault.SmbiosFault.TheVariants.{OutOfMemory}
use Rattle.smbios_decode.specs.Faults.{IsRefused}

-- the least address where something stands
abbrev pub IsLeast : (ℕ → Type 0) → ℕ → Type 0
IsLeast Stands address = Stands address × ((other : ℕ) → other < address → Stands other → ⊥)

-- no valid anchor of a form stands anywhere
abbrev pub HasNoAnchorBy : AnchorForm → View → Type 0
HasNoAnchorBy form view = (address : ℕ) → HasAnchorBy form view address → ⊥

abbrev pub HasNoAnchor : View → Type 0
HasNoAnchor view = HasNoAnchorBy Smbios3 view

-- the least address of a valid anchor of a form
abbrev pub IsFirstAnchorBy : AnchorForm → View → ℕ → Type 0
IsFirstAnchorBy form view = IsLeast (HasAnchorBy form view)

abbrev pub IsFirstAnchor : View → ℕ → Type 0
IsFirstAnchor view = IsFirstAnchorBy Smbios3 view

-- no valid RSDP of a form stands anywhere
abbrev pub HasNoRsdpBy : Form → View → Type 0
HasNoRsdpBy form view = (address : ℕ) → HasRsdpBy form view address → ⊥

abbrev pub HasNoRsdp : View → Type 0
HasNoRsdp view = HasNoRsdpBy xsdt_form view

-- The least valid anchor of a form leads to bytes that aren't structures, with this first fault.
pub record RefusesSmbiosBy (form : AnchorForm) (view : View) (fault : SmbiosFault) : Type 0 where
  pub address : ℕ
  pub anchor : Anchor
  pub structures : ℕ
  pub valid : IsAnchorBy form view address anchor structures
  pub least : (other : ℕ) → other < address → HasAnchorBy form view other → ⊥
  pub bytes : List ℕ
  pub range : IsRange view structures anchor.maximum_size bytes
  pub refused : IsRefused bytes fault

abbrev pub RefusesSmbios : View → SmbiosFault → Type 0
RefusesSmbios view fault = RefusesSmbiosBy Smbios3 view fault

-- a result is what was meant, unless memory ran out
abbrev pub OrNoMemory : Result (Option SmbiosTable) SmbiosFault → Result (Option SmbiosTable) SmbiosFault → Type 0
OrNoMemory result meant = (result ≡ meant) ⊎ (result ≡ Err OutOfMemory)
