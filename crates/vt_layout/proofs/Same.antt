-- Rows of one shape that are shown at one address are the same.
use Rattle.std.proofs.Common.{◌≡◌, ℕ, ◌+◌, List, [], ◌∷◌, refl, ap, subst, sym, ◌∙◌}
use Rattle.vt_bytes.specs.View.{View}
use Rattle.vt_layout.specs.declared.row.Row.{Row}
use Rattle.vt_layout.specs.declared.row.Row.TheVariants.{Number, BigEndian, Bytes, Named, StringNumber, Ignored, Reserved, Pointer, Sum}
use Rattle.vt_layout.specs.Rows.{width_of, shape_of, shape}
use Rattle.vt_layout.specs.Shown.{RowShown, Shown}

pub same_row : (view : View) (start address : ℕ) (row other : Row) → RowShown view start address row → RowShown view start address other
    → shape_of row ≡ shape_of other → row ≡ other
same_row view start address (Number m x) (Number n y) is are same = cc
same_row view start address (BigEndian m x) (BigEndian n y) is are same = cc
same_row view start address (Bytes m xs) (Bytes n ys) is are same = cc
same_row view start address (Named xs) (Named ys) is are same = cc
same_row view start address (StringNumber x) (StringNumber y) is are same = cc
same_row view start address (Ignored m x) (Ignored n y) is are same = same
same_row view start address (Reserved m) (Reserved n) is are same = same
same_row view start address (Pointer m s x) (Pointer n t y) is are same = absurd is
same_row view start address (Sum m) (Sum n) is are same = same
same_row view start address row other is are same = absurd (cc)

-- a shape keeps the width
width-shape : (row : Row) → width_of (shape_of row) ≡ width_of row
width-shape (Named name) = refl
width-shape row = refl

pub same_width : (row other : Row) → shape_of row ≡ shape_of other → width_of row ≡ width_of other
same_width row other same = sym (width-shape row) ∙ ap width_of same ∙ width-shape other

pub same_rows : (view : View) (start address : ℕ) (rows others : List Row) → Shown view start address rows → Shown view start address others
    → shape rows ≡ shape others → rows ≡ others
same_rows view start address [] [] is are same = refl
same_rows view start address [] (other ∷ others) is are same = absurd (cc)
same_rows view start address (row ∷ rows) [] is are same = absurd (cc)
same_rows view start address (row ∷ rows) (other ∷ others) is are same =
    let first : row ≡ other = same_row view start address row other is.0 are.0 (cc) in
    let place : address + width_of other ≡ address + width_of row = ap (λ r. address + width_of r) (sym first) in
    let rest : rows ≡ others =
    same_rows view start (address + width_of row) rows others is.1 (subst (λ a. Shown view start a others) place are.1) (cc) in
    cc
