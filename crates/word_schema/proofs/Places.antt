-- Values by their places among those that fit rows.
use Rattle.std.proofs.Common.{◌≡◌, ℕ, zero, suc, ◌<◌, ◌≤◌, leb, List, [], ◌∷◌, true, Some, subst, arith}
use Rattle.std.proofs.lemmas.Bool.{and_parts, leb-true}
use Rattle.std.proofs.lemmas.Bool.Decides.{nat_tests}
use Rattle.std.specs.List.{slice_get}
use Rattle.word_schema.specs.declared.value.Value.{Value}
use Rattle.word_schema.specs.declared.value.Value.TheVariants as values
use Rattle.word_schema.specs.Fits.{fits_form, fits_row, fit_rows}
use Rattle.word_schema.specs.Forms.{Row}
use Rattle.word_schema.specs.Forms as forms
use Rattle.word_schema.specs.Taken.{value_at, number_to}

-- the value at a row's place fits the row
pub row_fits : (rows : List Row) (values : List Value) (n : ℕ) (row : Row) → fit_rows rows values ≡ true → slice_get rows n ≡ Some row
    → fits_row row (value_at n values) ≡ true
row_fits [] values n row fit is = absurd (cc)
row_fits (first ∷ rows) [] n row fit is = absurd (cc)
row_fits (first ∷ rows) (value ∷ values) zero row fit is =
    let same : first ≡ row = cc in
    subst (λ (r : Row). fits_row r value ≡ true) same (and_parts (fits_row first value) (fit_rows rows values) fit).0
row_fits (first ∷ rows) (value ∷ values) (suc n) row fit is =
    row_fits rows values n row (and_parts (fits_row first value) (fit_rows rows values) fit).1 is

-- a number that fits is taken as it is
pub number_kept : (least most : ℕ) (value : Value) → fits_form (forms.Number least most) value ≡ true
    → (least ≤ number_to most value) × (number_to most value ≤ most)
number_kept least most (values.Number n) fit =
    let parts = and_parts (leb least n) (leb n most) fit in
    rw parts.1 (leb-true _ _ parts.0, leb-true _ _ parts.1)
number_kept least most (values.Flag flag) fit = absurd (cc)
number_kept least most (values.Word n) fit = absurd (cc)

pub byte_kept : (value : Value) → number_to 255 value < 256
byte_kept (values.Number n) = grind (arith, nat_tests)
byte_kept (values.Flag flag) = omega arith
byte_kept (values.Word n) = omega arith
