-- How many bytes rows have that their bytes fill.
use Rattle.std.proofs.Common.{◌≡◌, ℕ, List, [], ◌∷◌, length, drop, arith, refl, ◌∙◌, length-append}
use Rattle.std.proofs.lemmas.List.{length-replicate, length-reverse}
use Rattle.std.specs.List.{AllByRecursion}
use Rattle.vt_outside.specs.Name.{IsName}
use Rattle.vt_outside.proofs.Names.{length-in_field}
use Rattle.vt_bytes.specs.Numbers.{le_bytes}
use Rattle.vt_bytes.proofs.Numbers.{length-le_bytes}
use Rattle.vt_layout.specs.declared.row.Row.{Row}
use Rattle.vt_layout.specs.declared.row.Row.TheVariants.{Number, BigEndian, Bytes, Named, StringNumber, Ignored, Reserved, Pointer, Sum}
use Rattle.vt_layout.specs.Rows.{width_of, bytes_of, size, spelled}
use Rattle.vt_layout.specs.Numbered.{numbered}
use Rattle.vt_layout.proofs.NumberedRows.{size-numbered}

-- Bytes fill their row, and a name is one. A number, whatever it is, is written in as many bytes as its row has.
abbrev pub IsFilled : Row → Type 0
IsFilled (Bytes width bytes) = length bytes ≡ width
IsFilled (Named name) = IsName name
IsFilled row = Unit {0}

length-filled : (row : Row) → IsFilled row → length (bytes_of row) ≡ width_of row
length-filled (Number width value) is = length-le_bytes width value
length-filled (BigEndian width value) is = length-reverse (le_bytes width value) ∙ length-le_bytes width value
length-filled (Bytes width bytes) is = is
length-filled (Named name) is = length-in_field name is
length-filled (StringNumber number) is = length-le_bytes 1 number
length-filled (Ignored width value) is = length-le_bytes width value
length-filled (Reserved width) is = length-replicate width 0
length-filled (Pointer width target offset) is = length-le_bytes width offset
length-filled (Sum covers) is = refl

length-spelled : (rows : List Row) → AllByRecursion IsFilled rows → length (spelled rows) ≡ size rows
length-spelled [] are = refl
length-spelled (row ∷ rows) are =
    omega (arith, length-append (bytes_of row) (spelled rows), length-filled row are.0, length-spelled rows are.1)

filled_numbered : (numbers : List ℕ) (rows : List Row) → AllByRecursion IsFilled rows → AllByRecursion IsFilled (numbered numbers rows)
filled_numbered numbers [] are = tt
filled_numbered numbers (StringNumber m ∷ rows) are = (tt, filled_numbered (drop 1 numbers) rows are.1)
filled_numbered numbers (row ∷ rows) are = (are.0, filled_numbered numbers rows are.1)

-- whatever the numbers of their strings are
pub length-area : (numbers : List ℕ) (rows : List Row) → AllByRecursion IsFilled rows → length (spelled (numbered numbers rows)) ≡ size rows
length-area numbers rows are = length-spelled (numbered numbers rows) (filled_numbered numbers rows are) ∙ size-numbered numbers rows
