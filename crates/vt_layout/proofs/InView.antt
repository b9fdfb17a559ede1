-- The bytes that a view shows as rows of a shape.
use Rattle.std.proofs.Common.{◌≡◌, ℕ, ◌+◌, ◌-◌, ◌≤◌, List, [], ◌∷◌, take, drop, Some, arith, refl, ap, subst}
use Rattle.std.specs.List.{AllByRecursion}
use Rattle.std.specs.Option.{option_map}
use Rattle.vt_bytes.specs.Numbers.{le, be}
use Rattle.vt_bytes.specs.View.{View, bytes_in}
use Rattle.vt_bytes.proofs.Views.{bytes_in-split}
use Rattle.vt_layout.specs.declared.row.Row.{Row}
use Rattle.vt_layout.specs.declared.row.Row.TheVariants.{Number, BigEndian, Bytes, Named, StringNumber, Ignored, Reserved, Pointer, Sum}
use Rattle.vt_layout.specs.Rows.{width_of, size}
use Rattle.vt_layout.specs.Shown.{RowShown, Shown}
use Rattle.vt_layout.specs.Reading.{IsReadable, row_in, rows_in}

-- the bytes of a row are shown as it
row_shown : (view : View) (start address : ℕ) (row : Row) (bytes : List ℕ) → IsReadable row → bytes_in view address (width_of row) ≡ Some bytes
    → RowShown view start address (row_in row bytes)
row_shown view start address (Number width value) bytes is there = ap (option_map le) there
row_shown view start address (BigEndian width value) bytes is there = ap (option_map be) there
row_shown view start address (Bytes width text) bytes is there = there
row_shown view start address (StringNumber number) bytes is there = ap (option_map le) there
row_shown view start address (Ignored width value) bytes is there = tt
row_shown view start address (Reserved width) bytes is there = tt
row_shown view start address (Named name) bytes is there = absurd is
row_shown view start address (Pointer width target offset) bytes is there = absurd is
row_shown view start address (Sum covers) bytes is there = absurd is

-- a row has the width of its kind
pub width-row_in : (row : Row) (bytes : List ℕ) → width_of row ≡ width_of (row_in row bytes)
width-row_in (Number width value) bytes = refl
width-row_in (BigEndian width value) bytes = refl
width-row_in (Bytes width text) bytes = refl
width-row_in (StringNumber number) bytes = refl
width-row_in row bytes = refl

-- so are the bytes of rows, where there are enough of them
pub bytes_as_rows : (view : View) (start address count : ℕ) (kinds : List Row) (bytes : List ℕ) → AllByRecursion IsReadable kinds → size kinds ≤ count
    → bytes_in view address count ≡ Some bytes → Shown view start address (rows_in kinds bytes)
bytes_as_rows view start address count [] bytes are within there = tt
bytes_as_rows view start address count (row ∷ kinds) bytes are within there =
    let width = width_of row in
    let parts : count ≡ width + (count - width) = omega arith in
    let split = bytes_in-split view address width (count - width) bytes (subst (λ n. bytes_in view address n ≡ Some bytes) parts there) in
    let others = bytes_as_rows view start (address + width) (count - width) kinds (drop width bytes) are.1 (omega arith) split.second in (
      row_shown view start address row (take width bytes) are.0 split.first,
      subst (λ n. Shown view start (address + n) (rows_in kinds (drop width bytes))) (width-row_in row (take width bytes)) others,
    )
