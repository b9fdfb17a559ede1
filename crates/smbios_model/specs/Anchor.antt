-- The anchor of SMBIOS structures: the 64-bit entry point (DMTF DSP0134, version 3.0.0, 5.2.2), and the old one, the 32-bit entry point
-- (5.2.1).
use Rattle.std.specs.Prelude.{◌≡◌, ℕ, ◌+◌, ◌%◌, ◌≤◌, ◌⊎◌, List, [], ◌∷◌, length, codes, Some, None}
use Rattle.vt_bytes.specs.View.{View, bytes_in}
use Rattle.vt_layout.specs.declared.row.Row.{Row}
use Rattle.vt_layout.specs.declared.row.Row.TheVariants.{Number, Bytes, Ignored, Reserved, Sum}
use Rattle.vt_layout.specs.Shown.{LayoutShown}
use Rattle.smbios_model.specs.declared.anchor.Anchor.{Anchor}
use Rattle.smbios_model.specs.declared.anchor.AnchorForm.{AnchorForm}
use Rattle.smbios_model.specs.declared.anchor.AnchorForm.TheVariants.{Smbios3, Smbios2}

-- how many bytes an anchor of a form has at least
abbrev pub least_length : AnchorForm → ℕ
least_length Smbios3 = 0x18
least_length Smbios2 = 31

-- The 64-bit entry point: its mark, its sum, its length, the version and the revision of the standard, the revision of the anchor's own form, what is
-- reserved, the most bytes that the structures have, and the row of their address.
abbrev pub anchor_rows : Anchor → Row → List Row
anchor_rows a structures =
    Bytes 5 (codes "_SM3_") ∷ Sum a.length ∷ Number 1 a.length ∷ Number 1 a.major ∷ Number 1 a.minor ∷ Number 1 a.docrev ∷ Ignored 1 1
    ∷ Reserved 1 ∷ Number 4 a.maximum_size ∷ structures ∷ []

-- The old anchor: its mark, the sum of all its bytes, its length, and the version of the standard. The size of the largest structure, the
-- revision of the anchor's own form and the formatted area behind it aren't looked at.
abbrev pub old_rows : Anchor → List Row
old_rows a = Bytes 4 (codes "_SM_") ∷ Sum 31 ∷ Number 1 31 ∷ Number 1 a.major ∷ Number 1 a.minor ∷ Ignored 2 0 ∷ Ignored 1 0 ∷ Reserved 5 ∷ []

-- Its part from offset 0x10 on, whose bytes sum to zero by themselves: its mark, its sum, the most bytes that the structures have, and the
-- row of their address. How many structures there are and the version in decimal digits aren't looked at.
abbrev pub old_range_rows : Anchor → Row → List Row
old_range_rows a structures =
    Bytes 5 (codes "_DMI_") ∷ Sum 15 ∷ Number 2 a.maximum_size ∷ structures ∷ Ignored 2 0 ∷ Ignored 1 0 ∷ []

-- The bytes of an old anchor stand at the address: both of its parts, with 31 bytes and no revision of the standard's document.
pub record OldAnchorShown (view : View) (address : ℕ) (a : Anchor) (structures : ℕ) : Type 0 where
  pub sized : a.length ≡ 31
  pub unrevised : a.docrev ≡ 0
  pub front : LayoutShown view address (old_rows a)
  pub range : LayoutShown view (address + 0x10) (old_range_rows a (Number 4 structures))

-- the bytes of an anchor of a form stand at the address
abbrev pub AnchorShown : AnchorForm → View → ℕ → Anchor → ℕ → Type 0
AnchorShown Smbios3 view address a structures = LayoutShown view address (anchor_rows a (Number 8 structures))
AnchorShown Smbios2 view address a structures = OldAnchorShown view address a structures

-- A valid anchor of a form stands at the address, and tells the address of the structures: on a multiple of 16 from 0xF0000, with a length
-- of at least the form's least, and its last byte below 0x100000.
pub record IsAnchorBy (form : AnchorForm) (view : View) (address : ℕ) (a : Anchor) (structures : ℕ) : Type 0 where
  pub from : 0xF0000 ≤ address
  pub aligned : address % 16 ≡ 0
  pub long_enough : least_length form ≤ a.length
  pub within : address + a.length ≤ 0x100000
  pub shown : AnchorShown form view address a structures

-- some valid anchor of a form stands at the address
abbrev pub HasAnchorBy : AnchorForm → View → ℕ → Type 0
HasAnchorBy form view address = (a : Anchor) × (structures : ℕ) × IsAnchorBy form view address a structures

-- the same of the 64-bit entry point
abbrev pub IsAnchor : View → ℕ → Anchor → ℕ → Type 0
IsAnchor view address a structures = IsAnchorBy Smbios3 view address a structures

abbrev pub HasAnchor : View → ℕ → Type 0
HasAnchor view address = HasAnchorBy Smbios3 view address

-- the bytes from an address on, as many as a maximum says and as are RAM without a gap
pub record IsRange (view : View) (address maximum : ℕ) (bytes : List ℕ) : Type 0 where
  pub at_most : length bytes ≤ maximum
  pub there : bytes_in view address (length bytes) ≡ Some bytes
  pub whole : (length bytes ≡ maximum) ⊎ (view (address + length bytes) ≡ None)

-- the anchor that is written for structures of so many bytes: version 3.0.0
abbrev pub anchor_of : ℕ → Anchor
anchor_of bytes = record { length = 0x18; major = 3; minor = 0; docrev = 0; maximum_size = bytes }
