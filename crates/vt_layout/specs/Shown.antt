-- Rows that a view shows, as a reader takes them, and rows that a view holds, as they were written.
use Rattle.std.specs.Prelude.{◌≡◌, ℕ, ◌+◌, List, [], ◌∷◌, Some, Ok}
use Rattle.std.specs.Option.{option_map}
use Rattle.vt_outside.specs.Name.{name_of, before_nul}
use Rattle.vt_bytes.specs.Numbers.{be, byte_sum}
use Rattle.vt_bytes.specs.View.{View, bytes_in, number_in}
use Rattle.vt_layout.specs.declared.row.Row.{Row}
use Rattle.vt_layout.specs.declared.row.Row.TheVariants.{Number, BigEndian, Bytes, Named, StringNumber, Ignored, Reserved, Pointer, Sum}
use Rattle.vt_layout.specs.Rows.{width_of, bytes_of}

-- A row of the layout that begins at start is shown at an address: its number stands there, its bytes, or its name; the layout's
-- first bytes sum to zero. What is ignored may be anything, and a pointer is shown only once its target's place is added.
abbrev pub RowShown : View → ℕ → ℕ → Row → Type 0
RowShown view start address (Number width value) = number_in view address width ≡ Some value
RowShown view start address (BigEndian width value) = option_map be (bytes_in view address width) ≡ Some value
RowShown view start address (Bytes width bytes) = bytes_in view address width ≡ Some bytes
RowShown view start address (Named name) = option_map (λ field. name_of (before_nul field)) (bytes_in view address 56) ≡ Some (Ok name)
RowShown view start address (StringNumber number) = number_in view address 1 ≡ Some number
RowShown view start address (Ignored width value) = Unit {0}
RowShown view start address (Reserved width) = Unit {0}
RowShown view start address (Pointer width target offset) = ⊥
RowShown view start address (Sum covers) = option_map byte_sum (bytes_in view start covers) ≡ Some 0

-- rows are shown one after the other
abbrev pub Shown : View → ℕ → ℕ → List Row → Type 0
Shown view start address [] = Unit {0}
Shown view start address (row ∷ rows) = RowShown view start address row × Shown view start (address + width_of row) rows

-- the rows of a layout that begins at an address
abbrev pub LayoutShown : View → ℕ → List Row → Type 0
LayoutShown view address rows = Shown view address address rows

-- A row is held at an address as it was written, with its holes filled, where each file stands at its place.
abbrev pub RowHeld : View → (List ℕ → ℕ) → ℕ → ℕ → Row → Type 0
RowHeld view place_of start address (Pointer width target offset) = number_in view address width ≡ Some (offset + place_of target)
RowHeld view place_of start address (Sum covers) = option_map byte_sum (bytes_in view start covers) ≡ Some 0
RowHeld view place_of start address row = bytes_in view address (width_of row) ≡ Some (bytes_of row)

abbrev pub Held : View → (List ℕ → ℕ) → ℕ → ℕ → List Row → Type 0
Held view place_of start address [] = Unit {0}
Held view place_of start address (row ∷ rows) =
    RowHeld view place_of start address row × Held view place_of start (address + width_of row) rows

abbrev pub LayoutHeld : View → (List ℕ → ℕ) → ℕ → List Row → Type 0
LayoutHeld view place_of address rows = Held view place_of address address rows
