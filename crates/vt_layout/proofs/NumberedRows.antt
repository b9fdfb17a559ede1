-- Rows with the numbers of their strings put in.
use Rattle.std.proofs.Common.{◌≡◌, ℕ, ◌<◌, List, [], ◌∷◌, length, drop, slice_index_or, arith, refl, ap, sym, ◌∙◌}
use Rattle.std.specs.List.{AllByRecursion}
use Rattle.vt_layout.specs.declared.row.Row.{Row}
use Rattle.vt_layout.specs.declared.row.Row.TheVariants.{Named, StringNumber}
use Rattle.vt_layout.specs.Rows.{width_of, size, shape, shape_of, string_numbers, IsRow, IsPlain}
use Rattle.vt_layout.specs.Numbered.{numbered}

-- as many numbers as there are rows for are those that stand there
pub string_numbers-numbered : (numbers : List ℕ) (rows : List Row) → length (string_numbers rows) ≡ length numbers
    → string_numbers (numbered numbers rows) ≡ numbers
string_numbers-numbered [] [] long = refl
string_numbers-numbered (n ∷ numbers) [] long = absurd (omega arith)
string_numbers-numbered [] (StringNumber m ∷ rows) long = absurd (omega arith)
string_numbers-numbered (n ∷ numbers) (StringNumber m ∷ rows) long = ap (λ all. n ∷ all) (string_numbers-numbered numbers rows (omega arith))
string_numbers-numbered numbers (row ∷ rows) long = string_numbers-numbered numbers rows long

-- no numbers change nothing
pub numbered-none : (rows : List Row) → numbered [] rows ≡ rows
numbered-none [] = refl
numbered-none (StringNumber m ∷ rows) = ap (λ more. StringNumber m ∷ more) (numbered-none rows)
numbered-none (row ∷ rows) = ap (λ more. row ∷ more) (numbered-none rows)

-- they don't change the shape of the rows
pub shape-numbered : (numbers : List ℕ) (rows : List Row) → shape (numbered numbers rows) ≡ shape rows
shape-numbered numbers [] = refl
shape-numbered numbers (StringNumber m ∷ rows) = ap (λ all. StringNumber 0 ∷ all) (shape-numbered (drop 1 numbers) rows)
shape-numbered numbers (row ∷ rows) = ap (λ all. shape_of row ∷ all) (shape-numbered numbers rows)

-- the first of numbers that fit a byte, or one that does where there is none, and the others
first_fits : (numbers : List ℕ) (m : ℕ) → AllByRecursion (λ n. n < 256) numbers → m < 256 → slice_index_or numbers 0 m < 256
first_fits [] m fit is = is
first_fits (n ∷ numbers) m fit is = fit.0

others_fit : (numbers : List ℕ) → AllByRecursion (λ n. n < 256) numbers → AllByRecursion (λ n. n < 256) (drop 1 numbers)
others_fit [] fit = tt
others_fit (n ∷ numbers) fit = fit.1

-- numbers that fit a byte fit their rows
pub rows_numbered : (numbers : List ℕ) (rows : List Row) → AllByRecursion (λ n. n < 256) numbers → AllByRecursion IsRow rows
    → AllByRecursion IsRow (numbered numbers rows)
rows_numbered numbers [] fit are = tt
rows_numbered numbers (StringNumber m ∷ rows) fit are =
    (first_fits numbers m fit are.0, rows_numbered (drop 1 numbers) rows (others_fit numbers fit) are.1)
rows_numbered numbers (row ∷ rows) fit are = (are.0, rows_numbered numbers rows fit are.1)

pub plain_numbered : (numbers : List ℕ) (rows : List Row) → AllByRecursion IsPlain rows → AllByRecursion IsPlain (numbered numbers rows)
plain_numbered numbers [] plain = tt
plain_numbered numbers (StringNumber m ∷ rows) plain = (tt, plain_numbered (drop 1 numbers) rows plain.1)
plain_numbered numbers (row ∷ rows) plain = (plain.0, plain_numbered numbers rows plain.1)

-- a shape has as many bytes as its rows
width-shape : (row : Row) → width_of (shape_of row) ≡ width_of row
width-shape (Named name) = refl
width-shape row = refl

pub size-shape : (rows : List Row) → size (shape rows) ≡ size rows
size-shape [] = refl
size-shape (row ∷ rows) = omega (arith, width-shape row, size-shape rows)

pub size-numbered : (numbers : List ℕ) (rows : List Row) → size (numbered numbers rows) ≡ size rows
size-numbered numbers rows = sym (size-shape (numbered numbers rows)) ∙ ap size (shape-numbered numbers rows) ∙ size-shape rows
