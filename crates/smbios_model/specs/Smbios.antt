-- SMBIOS structures in bytes (DMTF DSP0134, version 3.0.0, 6.1.2), and the table of them that a view shows.
use Rattle.std.specs.Prelude.{◌≡◌, ◌≢◌, ℕ, ◌+◌, ◌^◌, ◌<◌, List, [], ◌∷◌, ◌++◌, length}
use Rattle.vt_bytes.specs.Numbers.{le_bytes}
use Rattle.vt_bytes.specs.View.{View}
use Rattle.machine_desc.specs.declared.machine.Machine.{Machine}
use Rattle.smbios_model.specs.declared.anchor.Anchor.{Anchor}
use Rattle.smbios_model.specs.declared.anchor.AnchorForm.{AnchorForm}
use Rattle.smbios_model.specs.declared.anchor.AnchorForm.TheVariants.{Smbios3}
use Rattle.smbios_model.specs.declared.smbios.Structure.{Structure}
use Rattle.smbios_model.specs.declared.smbios.SmbiosTable.{SmbiosTable}
use Rattle.vt_layout.specs.Strings.{AreStrings, string_set}
use Rattle.smbios_model.specs.Structures.{IsBody}
use Rattle.smbios_model.specs.MachineStructures.{structures_of}
use Rattle.smbios_model.specs.Anchor.{IsAnchorBy, HasAnchorBy, IsRange}

-- a structure without its strings: its type, its length, its handle, and its area
abbrev pub formatted : ℕ → ℕ → List ℕ → List ℕ
formatted number handle area = number ∷ (4 + length area) ∷ le_bytes 2 handle ++ area

-- The bytes are a structure of a type, with its handle, its area, and its strings.
pub record IsStructure (bytes : List ℕ) (kind : ℕ) (s : Structure) : Type 0 where
  pub area : List ℕ
  pub strings : List (List ℕ)
  pub spelled : bytes ≡ formatted kind s.handle area ++ string_set strings
  pub handle_fits : s.handle < 2 ^ 16
  pub are_strings : AreStrings strings
  pub body : IsBody kind area strings s.body

-- The bytes are these structures, one after the other, and the last one is the first of type 127.
abbrev pub AreStructures : List ℕ → List Structure → Type 0
AreStructures bytes [] = ⊥
AreStructures bytes (s ∷ []) = IsStructure bytes 127 s
AreStructures bytes (s ∷ next ∷ others) =
    (first : List ℕ) × (rest : List ℕ) × (kind : ℕ) × (bytes ≡ first ++ rest) × (kind ≢ 127) × IsStructure first kind s
    × AreStructures rest (next ∷ others)

-- The view shows the table by a form: the least valid anchor of the form has its numbers, and the structures stand at the front of the range
-- that the anchor tells.
pub record ShowsSmbiosBy (form : AnchorForm) (view : View) (t : SmbiosTable) : Type 0 where
  pub address : ℕ
  pub anchor : Anchor
  pub structures : ℕ
  pub valid : IsAnchorBy form view address anchor structures
  pub least : (other : ℕ) → other < address → HasAnchorBy form view other → ⊥
  pub major : t.major ≡ anchor.major
  pub minor : t.minor ≡ anchor.minor
  pub docrev : t.docrev ≡ anchor.docrev
  pub used : List ℕ
  pub unused : List ℕ
  pub range : IsRange view structures anchor.maximum_size (used ++ unused)
  pub listed : AreStructures used t.structures

abbrev pub ShowsSmbios : View → SmbiosTable → Type 0
ShowsSmbios view t = ShowsSmbiosBy Smbios3 view t

-- a machine's table, of version 3.0
abbrev pub smbios_of : Machine → SmbiosTable
smbios_of m = record { major = 3; minor = 0; docrev = 0; structures = structures_of m }
