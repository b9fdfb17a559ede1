-- Shapes that hold no values, as which any bytes can be read.
use Rattle.std.specs.Prelude.{◌≡◌, Bool, true, false, cond, List, [], ◌∷◌, Option, Some, None}
use Rattle.std.specs.List.{AllByRecursion, list_all}
use Rattle.std.proofs.Common.{refl, ap, ◌∙◌}
use Rattle.std.proofs.lemmas.Bool.{and_parts, false≢true}
use Rattle.vt_layout.specs.declared.row.Row.{Row}
use Rattle.vt_layout.specs.declared.row.Row.TheVariants.{Number, BigEndian, Bytes, Named, StringNumber, Ignored, Reserved, Pointer, Sum}
use Rattle.vt_layout.specs.Rows.{shape_of, shape}
use Rattle.vt_layout.specs.Reading.{IsReadable}

-- the shape holds no values, and any bytes can be its rows
pub record IsBlank (rows : List Row) : Type 0 where
  pub blank : shape rows ≡ rows
  pub readable : AllByRecursion IsReadable rows

-- whether any bytes can be a row
abbrev pub is_readable_row : Row → Bool
is_readable_row (Named name) = false
is_readable_row (Pointer width target offset) = false
is_readable_row (Sum covers) = false
is_readable_row row = true

readable_row : (row : Row) → is_readable_row row ≡ true → IsReadable row
readable_row (Number width value) is = tt
readable_row (BigEndian width value) is = tt
readable_row (Bytes width bytes) is = tt
readable_row (StringNumber number) is = tt
readable_row (Ignored width value) is = tt
readable_row (Reserved width) is = tt
readable_row (Named name) is = absurd (false≢true is)
readable_row (Pointer width target offset) is = absurd (false≢true is)
readable_row (Sum covers) is = absurd (false≢true is)

pub readable_rows : (rows : List Row) → list_all is_readable_row rows ≡ true → AllByRecursion IsReadable rows
readable_rows [] are = tt
readable_rows (row ∷ rows) are =
    let parts = and_parts (is_readable_row row) (list_all is_readable_row rows) are in
    (readable_row row parts.0, readable_rows rows parts.1)

-- the shape of a shape is itself
shape_twice : (row : Row) → shape_of (shape_of row) ≡ shape_of row
shape_twice (Number width value) = refl
shape_twice (BigEndian width value) = refl
shape_twice (Bytes width bytes) = refl
shape_twice (Named name) = refl
shape_twice (StringNumber number) = refl
shape_twice (Pointer width target offset) = refl
shape_twice row = refl

shapes_twice : (rows : List Row) → shape (shape rows) ≡ shape rows
shapes_twice [] = refl
shapes_twice (row ∷ rows) = ap (λ first. first ∷ shape (shape rows)) (shape_twice row) ∙ ap (λ more. shape_of row ∷ more) (shapes_twice rows)

pub blank_shape : (rows : List Row) → list_all is_readable_row (shape rows) ≡ true → IsBlank (shape rows)
blank_shape rows are = record { blank = shapes_twice rows; readable = readable_rows (shape rows) are }

-- a shape that there may be, and the one of two that a test picks
abbrev pub IsBlankOrNone : Option (List Row) → Type 0
IsBlankOrNone None = Unit {0}
IsBlankOrNone (Some rows) = IsBlank rows

pub blank_one : (test : Bool) (one more : Option (List Row)) → IsBlankOrNone one → IsBlankOrNone more → IsBlankOrNone (cond test one more)
blank_one true one more is others = is
blank_one false one more is others = others
