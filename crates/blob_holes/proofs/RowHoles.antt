-- Where the holes of rows lie.
use Rattle.std.proofs.Common.{◌≡◌, ℕ, zero, suc, ◌+◌, ◌<◌, ◌≤◌, List, [], ◌∷◌, ◌++◌, length, get_or, take, arith, ap, subst, sym, ◌∙◌, append_assoc, append-nil}
use Rattle.std.specs.List.{AllByRecursion}
use Rattle.vt_bytes.proofs.Each.{each_weaker, each_append, each_front, each_back}
use Rattle.vt_layout.specs.declared.row.Row.{Row}
use Rattle.vt_layout.specs.declared.row.Row.TheVariants.{Pointer, Sum}
use Rattle.vt_layout.specs.Rows.{width_of, size}
use Rattle.blob_holes.specs.declared.hole.PointerHole.{PointerHole}
use Rattle.blob_holes.specs.declared.hole.SumHole.{SumHole}
use Rattle.blob_holes.specs.Rows.{pointer_of, sum_of, pointer_holes, sum_holes}

-- a field, or the byte of a sum, lies in a range
abbrev pub IsFieldIn : ℕ → ℕ → PointerHole → Type 0
IsFieldIn from to hole = (from ≤ hole.at) × (hole.at + hole.size ≤ to)

abbrev pub IsSumIn : ℕ → ℕ → SumHole → Type 0
IsSumIn from to hole = (from ≤ hole.at) × (hole.at < to)

-- a row's holes lie in it
pub pointers_in : (at : ℕ) (row : Row) → AllByRecursion (IsFieldIn at (at + width_of row)) (pointer_of at row)
pointers_in at (Pointer width target offset) = ((omega arith, omega arith), tt)
pointers_in at row = tt

pub sums_in : (start at : ℕ) (row : Row) → AllByRecursion (IsSumIn at (at + width_of row)) (sum_of start at row)
sums_in start at (Sum covers) = ((omega arith, omega arith), tt)
sums_in start at row = tt

-- and those of rows in them
pub pointers_within : (at : ℕ) (rows : List Row) → AllByRecursion (IsFieldIn at (at + size rows)) (pointer_holes at rows)
pointers_within at [] = tt
pointers_within at (row ∷ rows) =
    let next = at + width_of row in
    let In = IsFieldIn at (at + size (row ∷ rows)) in
    each_append In (pointer_of at row) (pointer_holes next rows)
    (each_weaker (IsFieldIn at next) In (λ hole a. (a.0, omega (arith, a.1))) (pointer_of at row) (pointers_in at row))
    (each_weaker (IsFieldIn next (next + size rows)) In (λ hole a. (omega (arith, a.0), omega (arith, a.1))) (pointer_holes next rows)
    (pointers_within next rows))

pub sums_within : (start at : ℕ) (rows : List Row) → AllByRecursion (IsSumIn at (at + size rows)) (sum_holes start at rows)
sums_within start at [] = tt
sums_within start at (row ∷ rows) =
    let next = at + width_of row in
    let In = IsSumIn at (at + size (row ∷ rows)) in
    each_append In (sum_of start at row) (sum_holes start next rows)
    (each_weaker (IsSumIn at next) In (λ hole a. (a.0, omega (arith, a.1))) (sum_of start at row) (sums_in start at row))
    (each_weaker (IsSumIn next (next + size rows)) In (λ hole a. (omega (arith, a.0), omega (arith, a.1))) (sum_holes start next rows)
    (sums_within start next rows))

-- so they lie behind where the rows begin
pub pointers_behind : (at : ℕ) (rows : List Row) → AllByRecursion (λ (hole : PointerHole). at ≤ hole.at) (pointer_holes at rows)
pointers_behind at rows =
    each_weaker (IsFieldIn at (at + size rows)) (λ (hole : PointerHole). at ≤ hole.at) (λ hole a. a.0) (pointer_holes at rows) (pointers_within at rows)

pub sums_behind : (start at : ℕ) (rows : List Row) → AllByRecursion (λ (hole : SumHole). at ≤ hole.at) (sum_holes start at rows)
sums_behind start at rows =
    each_weaker (IsSumIn at (at + size rows)) (λ (hole : SumHole). at ≤ hole.at) (λ hole a. a.0) (sum_holes start at rows) (sums_within start at rows)

-- the holes of rows after others
pub pointer_holes-append : (at : ℕ) (rows more : List Row)
    → pointer_holes at (rows ++ more) ≡ pointer_holes at rows ++ pointer_holes (at + size rows) more
pointer_holes-append at [] more =
    let place : at ≡ at + 0 = omega arith in
    ap (λ a. pointer_holes a more) place
pointer_holes-append at (row ∷ rows) more =
    let place : at + width_of row + size rows ≡ at + (width_of row + size rows) = omega arith in
    ap (λ holes. pointer_of at row ++ holes) (pointer_holes-append (at + width_of row) rows more)
    ∙ ap (λ a. pointer_of at row ++ (pointer_holes (at + width_of row) rows ++ pointer_holes a more)) place
    ∙ sym (append_assoc (pointer_of at row) (pointer_holes (at + width_of row) rows) (pointer_holes (at + size (row ∷ rows)) more))

pub sum_holes-append : (start at : ℕ) (rows more : List Row)
    → sum_holes start at (rows ++ more) ≡ sum_holes start at rows ++ sum_holes start (at + size rows) more
sum_holes-append start at [] more =
    let place : at ≡ at + 0 = omega arith in
    ap (λ a. sum_holes start a more) place
sum_holes-append start at (row ∷ rows) more =
    let place : at + width_of row + size rows ≡ at + (width_of row + size rows) = omega arith in
    ap (λ holes. sum_of start at row ++ holes) (sum_holes-append start (at + width_of row) rows more)
    ∙ ap (λ a. sum_of start at row ++ (sum_holes start (at + width_of row) rows ++ sum_holes start a more)) place
    ∙ sym (append_assoc (sum_of start at row) (sum_holes start (at + width_of row) rows) (sum_holes start (at + size (row ∷ rows)) more))

-- the holes of one more row
pub pointers_more : (at : ℕ) (rows : List Row) (k : ℕ) (other : Row) → k < length rows
    → pointer_holes at (take (k + 1) rows) ≡ pointer_holes at (take k rows) ++ pointer_of (at + size (take k rows)) (get_or rows k other)
pointers_more at [] k other l = absurd (omega arith)
pointers_more at (row ∷ rows) zero other l =
    let place : at + 0 ≡ at = omega arith in
    append-nil (pointer_of at row) ∙ ap (λ a. pointer_of a row) (sym place)
pointers_more at (row ∷ rows) (suc k) other l =
    let count : suc k + 1 ≡ suc (k + 1) = omega arith in
    let next = at + width_of row in
    let place : next + size (take k rows) ≡ at + (width_of row + size (take k rows)) = omega arith in
    ap (λ n. pointer_holes at (take n (row ∷ rows))) count ∙ ap (λ more. pointer_of at row ++ more) (pointers_more next rows k other (omega arith))
    ∙ sym (append_assoc (pointer_of at row) (pointer_holes next (take k rows)) (pointer_of (next + size (take k rows)) (get_or rows k other)))
    ∙ ap (λ a. pointer_of at row ++ pointer_holes next (take k rows) ++ pointer_of a (get_or rows k other)) place

pub sums_more : (start at : ℕ) (rows : List Row) (k : ℕ) (other : Row) → k < length rows
    → sum_holes start at (take (k + 1) rows) ≡ sum_holes start at (take k rows) ++ sum_of start (at + size (take k rows)) (get_or rows k other)
sums_more start at [] k other l = absurd (omega arith)
sums_more start at (row ∷ rows) zero other l =
    let place : at + 0 ≡ at = omega arith in
    append-nil (sum_of start at row) ∙ ap (λ a. sum_of start a row) (sym place)
sums_more start at (row ∷ rows) (suc k) other l =
    let count : suc k + 1 ≡ suc (k + 1) = omega arith in
    let next = at + width_of row in
    let place : next + size (take k rows) ≡ at + (width_of row + size (take k rows)) = omega arith in
    ap (λ n. sum_holes start at (take n (row ∷ rows))) count ∙ ap (λ more. sum_of start at row ++ more) (sums_more start next rows k other (omega arith))
    ∙ sym (append_assoc (sum_of start at row) (sum_holes start next (take k rows)) (sum_of start (next + size (take k rows)) (get_or rows k other)))
    ∙ ap (λ a. sum_of start at row ++ sum_holes start next (take k rows) ++ sum_of start a (get_or rows k other)) place

-- a fact of each sum of rows holds of the sum of each
pub sum_at : (P : SumHole → Type 0) (start at : ℕ) (rows : List Row) (k : ℕ) (other : Row) → k < length rows
    → AllByRecursion P (sum_holes start at rows) → AllByRecursion P (sum_of start (at + size (take k rows)) (get_or rows k other))
sum_at P start at [] k other l p = absurd (omega arith)
sum_at P start at (row ∷ rows) zero other l p =
    let place : at ≡ at + 0 = omega arith in
    subst (λ a. AllByRecursion P (sum_of start a row)) place (each_front P (sum_of start at row) (sum_holes start (at + width_of row) rows) p)
sum_at P start at (row ∷ rows) (suc k) other l p =
    let next = at + width_of row in
    let place : next + size (take k rows) ≡ at + (width_of row + size (take k rows)) = omega arith in
    subst (λ a. AllByRecursion P (sum_of start a (get_or rows k other))) place
    (sum_at P start next rows k other (omega arith) (each_back P (sum_of start at row) (sum_holes start next rows) p))
