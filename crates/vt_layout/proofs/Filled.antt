-- Rows that may be filled in.
use Rattle.std.proofs.Common.{◌≡◌, ℕ, ◌+◌, ◌≤◌, List, [], ◌∷◌, length, arith, refl, ap, sym, subst, ◌∙◌, ⊎_elim}
use Rattle.std.proofs.lemmas.Bool.{cases_lt}
use Rattle.vt_bytes.specs.View.{View}
use Rattle.vt_layout.specs.declared.row.Row.{Row}
use Rattle.vt_layout.specs.Rows.{width_of, size, shape_of, shape}
use Rattle.vt_layout.specs.Shown.{Shown}
use Rattle.vt_layout.specs.Filled.{RowFilled, Filled}
use Rattle.vt_layout.proofs.Same.{same_row, same_width}

-- rows that end within the length are those that are shown
pub shown_within : (view : View) (start end address : ℕ) (fillings rows : List Row) → address + size rows ≤ end
    → Filled view start end address fillings rows → Shown view start address rows
shown_within view start end address [] [] within filled = tt
shown_within view start end address [] (row ∷ rows) within filled = absurd filled
shown_within view start end address (filling ∷ fillings) [] within filled = absurd filled
shown_within view start end address (filling ∷ fillings) (row ∷ rows) within filled =
    (filled.0.0 (omega arith), shown_within view start end (address + width_of row) fillings rows (omega arith) filled.1)

pub filled_within : (view : View) (start end address : ℕ) (fillings rows : List Row) → length fillings ≡ length rows → address + size rows ≤ end
    → Shown view start address rows → Filled view start end address fillings rows
filled_within view start end address [] [] same within shown = tt
filled_within view start end address [] (row ∷ rows) same within shown = absurd (omega (arith, same))
filled_within view start end address (filling ∷ fillings) [] same within shown = absurd (omega (arith, same))
filled_within view start end address (filling ∷ fillings) (row ∷ rows) same within shown = (
  (λ inside. shown.0, λ past. absurd (omega (arith, past))),
  filled_within view start end (address + width_of row) fillings rows (omega (arith, same)) (omega arith) shown.1,
)

-- one row is filled in
same_filled_row : (view : View) (start end address : ℕ) (filling row other : Row) → RowFilled view start end address filling row
    → RowFilled view start end address filling other → shape_of row ≡ shape_of other → row ≡ other
same_filled_row view start end address filling row other is also same =
    let widths : width_of row ≡ width_of other = same_width row other same in
    ⊎_elim (λ past. is.1 past ∙ sym (also.1 (omega (arith, past, widths))))
    (λ within. same_row view start address row other (is.0 within) (also.0 (omega (arith, within, widths))) same)
    (cases_lt end (address + width_of row))

pub same_filled : (view : View) (start end address : ℕ) (fillings rows others : List Row) → Filled view start end address fillings rows
    → Filled view start end address fillings others → shape rows ≡ shape others → rows ≡ others
same_filled view start end address [] [] [] is also same = refl
same_filled view start end address [] [] (other ∷ others) is also same = absurd also
same_filled view start end address [] (row ∷ rows) others is also same = absurd is
same_filled view start end address (filling ∷ fillings) [] others is also same = absurd is
same_filled view start end address (filling ∷ fillings) (row ∷ rows) [] is also same = absurd also
same_filled view start end address (filling ∷ fillings) (row ∷ rows) (other ∷ others) is also same =
    let first : row ≡ other = same_filled_row view start end address filling row other is.0 also.0 (cc) in
    let place : address + width_of other ≡ address + width_of row = ap (λ r. address + width_of r) (sym first) in
    let there = subst (λ a. Filled view start end a fillings others) place also.1 in
    let rest : rows ≡ others = same_filled view start end (address + width_of row) fillings rows others is.1 there (cc) in
    cc
