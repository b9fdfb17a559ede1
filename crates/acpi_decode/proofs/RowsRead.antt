-- The rows of a shape that bytes are.
use Rattle.std.proofs.Common.{◌≡◌, ℕ, zero, suc, ◌≤◌, List, [], ◌∷◌, ◌++◌, length, take, drop, arith, refl, ap, ◌∙◌}
use Rattle.std.proofs.lemmas.List.{take-append-le, drop-append-le, drop-drop, length-drop}
use Rattle.vt_bytes.specs.Parts.{part}
use Rattle.vt_layout.specs.declared.row.Row.{Row}
use Rattle.vt_layout.specs.Rows.{size, width_of}
use Rattle.vt_layout.specs.Reading.{row_at, place_of_row, row_in, rows_in}

-- they are as many
pub length-rows_in : (rows : List Row) (bytes : List ℕ) → length (rows_in rows bytes) ≡ length rows
length-rows_in [] bytes = refl
length-rows_in (row ∷ rows) bytes = ap suc (length-rows_in rows (drop (width_of row) bytes))

-- each is what the bytes at its place are
pub row_read : (rows : List Row) (bytes : List ℕ) (k : ℕ)
    → row_at k (rows_in rows bytes) ≡ row_in (row_at k rows) (part bytes (place_of_row k rows) (width_of (row_at k rows)))
row_read [] bytes k = refl
row_read (row ∷ rows) bytes zero = refl
row_read (row ∷ rows) bytes (suc k) =
    row_read rows (drop (width_of row) bytes) k
    ∙ ap (λ b. row_in (row_at k rows) (take (width_of (row_at k rows)) b)) (drop-drop (place_of_row k rows) (width_of row) bytes)

-- those behind the first so many are what the bytes behind theirs are
pub rows_dropped : (n : ℕ) (rows : List Row) (bytes : List ℕ) → drop n (rows_in rows bytes) ≡ rows_in (drop n rows) (drop (size (take n rows)) bytes)
rows_dropped zero rows bytes = refl
rows_dropped (suc n) [] bytes = refl
rows_dropped (suc n) (row ∷ rows) bytes =
    rows_dropped n rows (drop (width_of row) bytes) ∙ ap (rows_in (drop n rows)) (drop-drop (size (take n rows)) (width_of row) bytes)

-- and those of two shapes are what the bytes of each are
pub rows_both : (rows more : List Row) (bytes behind : List ℕ) → length bytes ≡ size rows
    → rows_in (rows ++ more) (bytes ++ behind) ≡ rows_in rows bytes ++ rows_in more behind
rows_both [] more [] behind long = refl
rows_both [] more (byte ∷ bytes) behind long = absurd (omega (arith, long))
rows_both (row ∷ rows) more bytes behind long =
    let width : ℕ = width_of row in
    let within : width ≤ length bytes = omega (arith, long) in
    ap (λ b. row_in row b ∷ rows_in (rows ++ more) (drop width (bytes ++ behind))) (take-append-le width bytes behind within)
    ∙ ap (λ b. row_in row (take width bytes) ∷ rows_in (rows ++ more) b) (drop-append-le width bytes behind within)
    ∙ ap (λ those. row_in row (take width bytes) ∷ those) (rows_both rows more (drop width bytes) behind (omega (arith, long, length-drop width bytes)))
