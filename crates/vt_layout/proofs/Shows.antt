-- Rows that a view holds as they were written are shown.
use Rattle.std.proofs.Common.{◌≡◌, ℕ, ◌+◌, List, [], ◌∷◌, ◌++◌, Some, arith, refl, ap, subst, ◌∙◌}
use Rattle.std.proofs.lemmas.List.{reverse-reverse}
use Rattle.std.specs.List.{AllByRecursion}
use Rattle.std.specs.Option.{option_map}
use Rattle.vt_outside.specs.Name.{name_of, before_nul}
use Rattle.vt_outside.proofs.Names.{name-in_field}
use Rattle.vt_bytes.specs.Numbers.{le, be, le_bytes}
use Rattle.vt_bytes.proofs.Numbers.{le-le_bytes}
use Rattle.vt_bytes.specs.View.{View}
use Rattle.vt_layout.specs.declared.row.Row.{Row}
use Rattle.vt_layout.specs.declared.row.Row.TheVariants.{Number, BigEndian, Bytes, Named, StringNumber, Ignored, Reserved, Pointer, Sum}
use Rattle.vt_layout.specs.Rows.{width_of, size, IsRow, linked_row, linked}
use Rattle.vt_layout.specs.Shown.{RowShown, Shown, RowHeld, Held}

shown_row : (view : View) (place_of : List ℕ → ℕ) (start address : ℕ) (row : Row) → IsRow row → RowHeld view place_of start address row
    → RowShown view start address (linked_row place_of row)
shown_row view place_of start address (Number width value) is held = ap (option_map le) held ∙ ap Some (le-le_bytes width value is.1)
shown_row view place_of start address (BigEndian width value) is held =
    ap (option_map be) held ∙ ap Some (ap le (reverse-reverse (le_bytes width value)) ∙ le-le_bytes width value is.1)
shown_row view place_of start address (Bytes width bytes) is held = held
shown_row view place_of start address (Named name) is held =
    ap (option_map (λ field. name_of (before_nul field))) held ∙ ap Some (name-in_field name is)
shown_row view place_of start address (StringNumber number) is held = ap (option_map le) held ∙ ap Some (le-le_bytes 1 number is)
shown_row view place_of start address (Ignored width value) is held = tt
shown_row view place_of start address (Reserved width) is held = tt
shown_row view place_of start address (Pointer width target offset) is held = held
shown_row view place_of start address (Sum covers) is held = held

-- linking changes no width
linked_width : (place_of : List ℕ → ℕ) (row : Row) → width_of row ≡ width_of (linked_row place_of row)
linked_width place_of (Pointer width target offset) = refl
linked_width place_of row = refl

pub size-linked : (place_of : List ℕ → ℕ) (rows : List Row) → size (linked place_of rows) ≡ size rows
size-linked place_of [] = refl
size-linked place_of (row ∷ rows) = omega (arith, linked_width place_of row, size-linked place_of rows)

pub shown_rows : (view : View) (place_of : List ℕ → ℕ) (start address : ℕ) (rows : List Row) → AllByRecursion IsRow rows
    → Held view place_of start address rows → Shown view start address (linked place_of rows)
shown_rows view place_of start address [] are held = tt
shown_rows view place_of start address (row ∷ rows) are held =
    let behind : address + width_of row ≡ address + width_of (linked_row place_of row) = ap (λ width. address + width) (linked_width place_of row) in (
      shown_row view place_of start address row are.0 held.0,
      subst (λ a. Shown view start a (linked place_of rows)) behind (shown_rows view place_of start (address + width_of row) rows are.1 held.1),
    )

-- the parts of rows that are held
pub held_front : (view : View) (place_of : List ℕ → ℕ) (start address : ℕ) (rows more : List Row) → Held view place_of start address (rows ++ more)
    → Held view place_of start address rows
held_front view place_of start address [] more held = tt
held_front view place_of start address (row ∷ rows) more held =
    (held.0, held_front view place_of start (address + width_of row) rows more held.1)

pub held_back : (view : View) (place_of : List ℕ → ℕ) (start address : ℕ) (rows more : List Row) → Held view place_of start address (rows ++ more)
    → Held view place_of start (address + size rows) more
held_back view place_of start address [] more held =
    let place : address ≡ address + 0 = omega arith in
    subst (λ a. Held view place_of start a more) place held
held_back view place_of start address (row ∷ rows) more held =
    let place : address + width_of row + size rows ≡ address + (width_of row + size rows) = omega arith in
    subst (λ a. Held view place_of start a more) place (held_back view place_of start (address + width_of row) rows more held.1)

-- the first of rows that are shown
pub shown_front : (view : View) (start address : ℕ) (rows more : List Row) → Shown view start address (rows ++ more) → Shown view start address rows
shown_front view start address [] more shown = tt
shown_front view start address (row ∷ rows) more shown = (shown.0, shown_front view start (address + width_of row) rows more shown.1)

-- linked rows, one after the other
pub linked-append : (place_of : List ℕ → ℕ) (rows more : List Row) → linked place_of (rows ++ more) ≡ linked place_of rows ++ linked place_of more
linked-append place_of [] more = refl
linked-append place_of (row ∷ rows) more = ap (λ others. linked_row place_of row ∷ others) (linked-append place_of rows more)
