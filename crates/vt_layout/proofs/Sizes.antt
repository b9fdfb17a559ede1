-- How many bytes rows have, and which.
use Rattle.std.proofs.Common.{◌≡◌, ℕ, zero, suc, ◌+◌, ◌<◌, ◌≤◌, List, [], ◌∷◌, ◌++◌, length, get_or, take, arith, refl, ap, sym, ◌∙◌, append_assoc}
use Rattle.std.proofs.Common.{append-nil, length-append}
use Rattle.std.proofs.lemmas.List.{length-replicate, length-reverse}
use Rattle.std.specs.List.{AllByRecursion}
use Rattle.vt_outside.proofs.Names.{length-in_field}
use Rattle.vt_bytes.specs.Numbers.{le_bytes}
use Rattle.vt_bytes.proofs.Numbers.{length-le_bytes}
use Rattle.vt_layout.specs.declared.row.Row.{Row}
use Rattle.vt_layout.specs.declared.row.Row.TheVariants.{Number, BigEndian, Bytes, Named, StringNumber, Ignored, Reserved, Pointer, Sum}
use Rattle.vt_layout.specs.Rows.{width_of, bytes_of, size, spelled, IsRow}

-- as many bytes as the row has
pub length-bytes_of : (row : Row) → IsRow row → length (bytes_of row) ≡ width_of row
length-bytes_of (Number width value) is = length-le_bytes width value
length-bytes_of (BigEndian width value) is = length-reverse (le_bytes width value) ∙ length-le_bytes width value
length-bytes_of (Bytes width bytes) is = is
length-bytes_of (Named name) is = length-in_field name is
length-bytes_of (StringNumber number) is = length-le_bytes 1 number
length-bytes_of (Ignored width value) is = length-le_bytes width value
length-bytes_of (Reserved width) is = length-replicate width 0
length-bytes_of (Pointer width target offset) is = length-le_bytes width offset
length-bytes_of (Sum covers) is = refl

pub length-spelled : (rows : List Row) → AllByRecursion IsRow rows → length (spelled rows) ≡ size rows
length-spelled [] are = refl
length-spelled (row ∷ rows) are =
    omega (arith, length-append (bytes_of row) (spelled rows), length-bytes_of row are.0, length-spelled rows are.1)

-- rows after others
pub size-append : (rows more : List Row) → size (rows ++ more) ≡ size rows + size more
size-append [] more = omega arith
size-append (row ∷ rows) more = omega (arith, size-append rows more)

pub spelled-append : (rows more : List Row) → spelled (rows ++ more) ≡ spelled rows ++ spelled more
spelled-append [] more = refl
spelled-append (row ∷ rows) more =
    ap (λ bytes. bytes_of row ++ bytes) (spelled-append rows more) ∙ sym (append_assoc (bytes_of row) (spelled rows) (spelled more))

-- one more row
pub size_more : (rows : List Row) (k : ℕ) (other : Row) → k < length rows
    → size (take (k + 1) rows) ≡ size (take k rows) + width_of (get_or rows k other)
size_more [] k other l = absurd (omega arith)
size_more (row ∷ rows) zero other l = omega arith
size_more (row ∷ rows) (suc k) other l =
    let count : suc k + 1 ≡ suc (k + 1) = omega arith in
    let rest = size_more rows k other (omega arith) in
    ap (λ n. size (take n (row ∷ rows))) count ∙ omega arith

pub spelled_more : (rows : List Row) (k : ℕ) (other : Row) → k < length rows
    → spelled (take (k + 1) rows) ≡ spelled (take k rows) ++ bytes_of (get_or rows k other)
spelled_more [] k other l = absurd (omega arith)
spelled_more (row ∷ rows) zero other l = append-nil (bytes_of row)
spelled_more (row ∷ rows) (suc k) other l =
    let count : suc k + 1 ≡ suc (k + 1) = omega arith in
    ap (λ n. spelled (take n (row ∷ rows))) count ∙ ap (λ more. bytes_of row ++ more) (spelled_more rows k other (omega arith))
    ∙ sym (append_assoc (bytes_of row) (spelled (take k rows)) (bytes_of (get_or rows k other)))

-- a row is as wide as what is left, or less
pub size_room : (rows : List Row) (k : ℕ) (other : Row) → k < length rows
    → size (take k rows) + width_of (get_or rows k other) ≤ size rows
size_room [] k other l = absurd (omega arith)
size_room (row ∷ rows) zero other l = omega arith
size_room (row ∷ rows) (suc k) other l = let rest = size_room rows k other (omega arith) in omega arith

-- the bytes of the rows so far, and of one more
pub put_more : (old seen new : List ℕ) (rows : List Row) (k : ℕ) (other row : Row) → k < length rows → row ≡ get_or rows k other
    → seen ≡ old ++ spelled (take k rows) → new ≡ seen ++ bytes_of row → new ≡ old ++ spelled (take (k + 1) rows)
put_more old seen new rows k other row l row_is was is =
    is ∙ ap (λ bytes. bytes ++ bytes_of row) was ∙ append_assoc old (spelled (take k rows)) (bytes_of row)
    ∙ ap (λ r. old ++ (spelled (take k rows) ++ bytes_of r)) row_is ∙ ap (λ more. old ++ more) (sym (spelled_more rows k other l))
