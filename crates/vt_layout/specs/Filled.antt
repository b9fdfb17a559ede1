-- Rows of a layout that may be shorter than they are: the rows past its end are filled in, as in an FADT of an older revision
-- (ACPI 6.5, 5.2.9, and the revisions before it).
use Rattle.std.specs.Prelude.{◌≡◌, ℕ, ◌+◌, ◌<◌, ◌≤◌, List, [], ◌∷◌, map, replicate}
use Rattle.vt_bytes.specs.View.{View}
use Rattle.vt_layout.specs.declared.row.Row.{Row}
use Rattle.vt_layout.specs.declared.row.Row.TheVariants.{Number, BigEndian, Bytes, StringNumber}
use Rattle.vt_layout.specs.Rows.{width_of}
use Rattle.vt_layout.specs.Shown.{RowShown}

-- A row that lies wholly below the end is shown there. Any other is the row that it is filled with, also where it begins below the end.
abbrev pub RowFilled : View → ℕ → ℕ → ℕ → Row → Row → Type 0
RowFilled view start end address filling row =
    (address + width_of row ≤ end → RowShown view start address row) × (end < address + width_of row → row ≡ filling)

-- Rows of the layout that begins at start stand one after the other up to the end, and behind it are those that they are filled with.
abbrev pub Filled : View → ℕ → ℕ → ℕ → List Row → List Row → Type 0
Filled view start end address [] [] = Unit {0}
Filled view start end address (filling ∷ fillings) (row ∷ rows) =
    RowFilled view start end address filling row × Filled view start end (address + width_of row) fillings rows
Filled view start end address fillings rows = ⊥

-- what a row reads as that is filled with zeros
abbrev pub blank_row : Row → Row
blank_row (Number width value) = Number width 0
blank_row (BigEndian width value) = BigEndian width 0
blank_row (Bytes width bytes) = Bytes width (replicate width 0)
blank_row (StringNumber number) = StringNumber 0
blank_row row = row

abbrev pub blank : List Row → List Row
blank rows = map blank_row rows
