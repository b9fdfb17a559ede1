-- Rows in bytes: what is shown is read.
use Rattle.std.proofs.Common.{◌≡◌, ℕ, zero, suc, ◌+◌, ◌-◌, ◌^◌, ◌<◌, ◌≤◌, List, [], ◌∷◌, length, reverse, slice_index, Option, None}
use Rattle.std.proofs.Common.{Some, Ok, inl, inr}
use Rattle.std.proofs.Common.{arith, refl, ap, subst, sym, ◌∙◌}
use Rattle.std.proofs.Math.Seq.{take-length}
use Rattle.std.proofs.lemmas.Bool.{cases_lt}
use Rattle.std.proofs.lemmas.List.{get_or-reverse, get_or_past, length-reverse}
use Rattle.std.proofs.lemmas.Option.{slice_get_within}
use Rattle.std.specs.Option.{option_map}
use Rattle.vt_outside.specs.Name.{name_of, before_nul}
use Rattle.vt_bytes.specs.Numbers.{le, be}
use Rattle.vt_bytes.specs.Parts.{part}
use Rattle.vt_bytes.specs.View.{View, bytes_in, view_of}
use Rattle.vt_bytes.proofs.Spelt.{le-fits}
use Rattle.vt_bytes.proofs.Views.{bytes_in-holds, ram-shown}
use Rattle.vt_layout.specs.declared.row.Row.{Row}
use Rattle.vt_layout.specs.declared.row.Row.TheVariants.{Number, BigEndian, Named}
use Rattle.vt_layout.specs.Rows.{width_of, number, text}
use Rattle.vt_layout.specs.Shown.{RowShown, Shown}
use Rattle.vt_layout.specs.Reading.{row_at, place_of_row, value_in, read_number, read_name, IsNumber, IsNamed}
use Rattle.vt_layout.proofs.Spelled.{holds_alone}

-- a part is shown
pub part_is_shown : (bytes : List ℕ) (place count : ℕ) → place + count ≤ length bytes → bytes_in (view_of bytes) place count ≡ Some (part bytes place count)
part_is_shown bytes place count within =
    let front : place ≡ 0 + place = omega arith in
    ap (λ a. bytes_in (view_of bytes) a count) front ∙ bytes_in-holds (view_of bytes) 0 bytes place count (holds_alone bytes) within

-- and nothing else
pub shown_is_part : (bytes : List ℕ) (place count : ℕ) (seen : List ℕ) → bytes_in (view_of bytes) place count ≡ Some seen → part bytes place count ≡ seen
unfolding bytes_in
shown_is_part bytes place zero seen shown = cc
shown_is_part bytes place (suc count) seen shown =
    let last : place + count < length bytes =
    slice_get_within bytes (place + count) _ (ram-shown (view_of bytes) place (suc count) seen count shown (omega arith)) in
    let within = part_is_shown bytes place (suc count) (omega arith) in
    cc

-- what is made of bytes that are shown
some_mapped : {A B : Type 0} (f : A → B) (seen : Option A) (value : B) → option_map f seen ≡ Some value → (x : A) × (seen ≡ Some x) × (f x ≡ value)
some_mapped f None value is = absurd (cc)
some_mapped f (Some x) value is = (x, refl, cc)

-- each row is shown at its place
pub shown_at : (view : View) (start address : ℕ) (rows : List Row) (k : ℕ) → k < length rows → Shown view start address rows
    → RowShown view start (address + place_of_row k rows) (row_at k rows)
shown_at view start address [] k within shown = absurd (omega arith)
shown_at view start address (row ∷ rows) zero within shown =
    let place : address ≡ address + 0 = omega arith in
    subst (λ a. RowShown view start a row) place shown.0
shown_at view start address (row ∷ rows) (suc k) within shown =
    let place : address + width_of row + place_of_row k rows ≡ address + (width_of row + place_of_row k rows) = omega arith in
    subst (λ a. RowShown view start a (row_at k rows)) place (shown_at view start (address + width_of row) rows k (omega arith) shown.1)

-- the first of one row
one_number : (rows : List Row) (k : ℕ) → k < length rows → number k rows ≡ number 0 (row_at k rows ∷ [])
one_number [] k within = absurd (omega arith)
one_number (Number width value ∷ rows) zero within = refl
one_number (row ∷ rows) zero within = refl
one_number (row ∷ rows) (suc k) within = one_number rows k (omega arith)

one_text : (rows : List Row) (k : ℕ) → k < length rows → text k rows ≡ text 0 (row_at k rows ∷ [])
one_text [] k within = absurd (omega arith)
one_text (Named name ∷ rows) zero within = refl
one_text (row ∷ rows) zero within = refl
one_text (row ∷ rows) (suc k) within = one_text rows k (omega arith)

-- the number of a row that is shown, and its name
number_seen : (row : Row) (start address : ℕ) (bytes : List ℕ) (count : ℕ) → IsNumber count row → RowShown (view_of bytes) start address row
    → value_in row (part bytes address (width_of row)) ≡ number 0 (row ∷ [])
number_seen (Number width value) start address bytes count is shown =
    let seen = some_mapped le (bytes_in (view_of bytes) address width) value shown in
    ap le (shown_is_part bytes address width seen.0 seen.1) ∙ seen.2
number_seen (BigEndian width value) start address bytes count is shown =
    let seen = some_mapped be (bytes_in (view_of bytes) address width) value shown in
    ap be (shown_is_part bytes address width seen.0 seen.1) ∙ seen.2
number_seen row start address bytes count is shown = absurd is

name_seen : (row : Row) (start address : ℕ) (bytes : List ℕ) → IsNamed row → RowShown (view_of bytes) start address row
    → name_of (before_nul (part bytes address (width_of row))) ≡ Ok (text 0 (row ∷ []))
name_seen (Named name) start address bytes is shown =
    let seen = some_mapped (λ field. name_of (before_nul field)) (bytes_in (view_of bytes) address 56) (Ok name) shown in
    ap (λ field. name_of (before_nul field)) (shown_is_part bytes address 56 seen.0 seen.1) ∙ seen.2
name_seen row start address bytes is shown = absurd is

-- a row that is a number, or a name, is one of the rows
pub number_among : (rows : List Row) (k count : ℕ) → IsNumber count (row_at k rows) → k < length rows
number_among [] k count is = absurd is
number_among (row ∷ rows) zero count is = omega arith
number_among (row ∷ rows) (suc k) count is = let rest = number_among rows k count is in omega arith

pub named_among : (rows : List Row) (k : ℕ) → IsNamed (row_at k rows) → k < length rows
named_among [] k is = absurd is
named_among (row ∷ rows) zero is = omega arith
named_among (row ∷ rows) (suc k) is = let rest = named_among rows k is in omega arith

-- the number that is read where rows are shown, and the name
pub number_read : (bytes : List ℕ) (rows : List Row) (k count : ℕ) → Shown (view_of bytes) 0 0 rows → IsNumber count (row_at k rows)
    → read_number k rows bytes ≡ number k rows
number_read bytes rows k count shown is =
    let within = number_among rows k count is in
    let place : 0 + place_of_row k rows ≡ place_of_row k rows = omega arith in
    let here = subst (λ a. RowShown (view_of bytes) 0 a (row_at k rows)) place (shown_at (view_of bytes) 0 0 rows k within shown) in
    number_seen (row_at k rows) 0 (place_of_row k rows) bytes count is here ∙ sym (one_number rows k within)

pub name_read : (bytes : List ℕ) (rows : List Row) (k : ℕ) → Shown (view_of bytes) 0 0 rows → IsNamed (row_at k rows)
    → read_name k rows bytes ≡ Ok (text k rows)
name_read bytes rows k shown is =
    let within = named_among rows k is in
    let place : 0 + place_of_row k rows ≡ place_of_row k rows = omega arith in
    let here = subst (λ a. RowShown (view_of bytes) 0 a (row_at k rows)) place (shown_at (view_of bytes) 0 0 rows k within shown) in
    name_seen (row_at k rows) 0 (place_of_row k rows) bytes is here ∙ ap Ok (sym (one_text rows k within))

-- a number fits as many bytes as spell it
all_bytes : (bytes : List ℕ) → ((i : ℕ) → slice_index bytes i < 256) → (i : ℕ) → slice_index (reverse bytes) i < 256
all_bytes bytes each i =
    elim (cases_lt i (length bytes)) as (λ _. slice_index (reverse bytes) i < 256) [
      | inl within ↦ subst (λ byte. byte < 256) (sym (get_or-reverse bytes i 0 within)) (each (length bytes - 1 - i))
      | inr past ↦ subst (λ byte. byte < 256) (sym (get_or_past (reverse bytes) i 0 (omega (arith, length-reverse bytes)))) (omega arith)
    ]

le-below : (bytes : List ℕ) → ((i : ℕ) → slice_index bytes i < 256) → le bytes < 256 ^ length bytes
le-below bytes each = subst (λ all. le all < 256 ^ length bytes) (take-length bytes) (le-fits (length bytes) bytes each)

pub value-below : (row : Row) (bytes : List ℕ) → ((i : ℕ) → slice_index bytes i < 256) → value_in row bytes < 256 ^ length bytes
value-below (BigEndian width value) bytes each =
    subst (λ n. be bytes < 256 ^ n) (length-reverse bytes) (le-below (reverse bytes) (all_bytes bytes each))
value-below row bytes each = le-below bytes each

-- what is taken of it low byte first, unless it is high byte first
pub low_first : (row : Row) (bytes : List ℕ) → ((width value : ℕ) → row ≡ BigEndian width value → ⊥) → value_in row bytes ≡ le bytes
low_first (BigEndian width value) bytes other = absurd (other width value refl)
low_first row bytes other = refl
