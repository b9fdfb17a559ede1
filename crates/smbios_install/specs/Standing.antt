-- What a view shows where files of SMBIOS structures are installed (DMTF DSP0134, version 3.0.0, 5.2.1 and 5.2.2).
use Rattle.std.specs.Prelude.{◌≡◌, ℕ, List, [], ◌∷◌, length, Some, Result}
use Rattle.vt_bytes.specs.View.{View, bytes_in}
use Rattle.loader_script.specs.Run.{Placed, placed_of}
use Rattle.cfg_directory.specs.declared.item.Item.{Item}
use Rattle.cfg_directory.specs.SmbiosNames.{anchor_name, structures_name}
use Rattle.smbios_model.specs.declared.anchor.Anchor.{Anchor}
use Rattle.smbios_model.specs.declared.anchor.AnchorForm.{AnchorForm}
use Rattle.smbios_model.specs.declared.smbios.Structure.{Structure}
use Rattle.smbios_model.specs.Anchor.{AnchorShown, IsRange}
use Rattle.smbios_decode.specs.declared.fault.SmbiosFault.{SmbiosFault}
use Rattle.smbios_decode.specs.Faults.{Means}
use Rattle.smbios_install.specs.Commands.{bytes_of}

-- each placed file stands in the view
abbrev pub HoldsPlaced : View → List Placed → Type 0
HoldsPlaced view [] = Unit {0}
HoldsPlaced view (p ∷ placed) = (bytes_in view p.place (length p.bytes) ≡ Some p.bytes) × HoldsPlaced view placed

-- Structures are installed at a place: an anchor of a form stands there, with its sums, and the bytes at the address that it tells are theirs.
pub record IsInstalled (view : View) (place : ℕ) (bytes : List ℕ) : Type 0 where
  pub form : AnchorForm
  pub anchor : Anchor
  pub structures : ℕ
  pub stands : AnchorShown form view place anchor structures
  pub there : bytes_in view structures (length bytes) ≡ Some bytes

-- The structures of items are installed in a view at the place of their anchor, which is one of the files that are placed.
pub record HasInstalled (view : View) (placed : List Placed) (items : List Item) : Type 0 where
  pub anchor : Placed
  pub found : placed_of placed anchor_name ≡ Some anchor
  pub installed : IsInstalled view anchor.place (bytes_of items structures_name)

-- what is read behind an anchor: what the bytes mean that stand at the address that it tells, as many as it tells and as are RAM
abbrev pub ReadsBehind : View → Anchor → ℕ → Result (List Structure) SmbiosFault → Type 0
ReadsBehind view anchor structures result = (bytes : List ℕ) × IsRange view structures anchor.maximum_size bytes × Means bytes result
