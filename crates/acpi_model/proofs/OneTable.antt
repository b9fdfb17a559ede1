-- ACPI tables that one view shows at one address, with rows of one shape behind their headers, are the same.
use Rattle.std.proofs.Common.{◌≡◌, ℕ, List, [], ◌∷◌, ◌++◌, drop, refl, ap, sym, ◌∙◌}
use Rattle.vt_bytes.specs.View.{View}
use Rattle.vt_layout.specs.declared.row.Row.{Row}
use Rattle.vt_layout.specs.declared.row.Row.TheVariants.{Number, Bytes, Sum}
use Rattle.vt_layout.specs.Rows.{shape, text}
use Rattle.vt_layout.specs.Values.{values_of}
use Rattle.vt_layout.proofs.Same.{same_rows}
use Rattle.acpi_records.specs.declared.header.Head.{Head}
use Rattle.acpi_records.specs.Header.{header_rows, head_made, IsTable}

-- the shape of a header of a table of so many bytes, before that of other rows
header_shape : ℕ → List Row → List Row
header_shape total rest =
    Bytes 4 [] ∷ Number 4 0 ∷ Number 1 0 ∷ Sum total ∷ Bytes 6 [] ∷ Bytes 8 [] ∷ Number 4 0 ∷ Bytes 4 [] ∷ Number 4 0 ∷ rest

shape-header : (s : List ℕ) (n : ℕ) (h : Head) (b : List Row) → shape (header_rows s n h ++ b) ≡ header_shape n (shape b)
unfolding header_shape
shape-header s n h b = refl

-- what two tables have in common
pub record AreSame (s t : List ℕ) (n k : ℕ) (h g : Head) (b c : List Row) : Type 0 where
  pub signatures : s ≡ t
  pub totals : n ≡ k
  pub headers : h ≡ g
  pub bodies : b ≡ c

pub one_table : (view : View) (address : ℕ) (s t : List ℕ) (n k : ℕ) (h g : Head) (b c : List Row)
    → IsTable view address s h n b → IsTable view address t g k c → (n ≡ k → shape b ≡ shape c) → AreSame s t n k h g b c
one_table view address s t n k h g b c is also shapes =
    let totals : n ≡ k = cc (is.shown.1.0, also.shown.1.0) in
    let whole : shape (header_rows s n h ++ b) ≡ shape (header_rows t k g ++ c) =
    shape-header s n h b ∙ ap (λ total. header_shape total (shape b)) totals ∙ ap (header_shape k) (shapes totals)
    ∙ sym (shape-header t k g c) in
    let rows : header_rows s n h ++ b ≡ header_rows t k g ++ c =
    same_rows view address address (header_rows s n h ++ b) (header_rows t k g ++ c) is.shown also.shown whole in
    record { signatures = ap (text 0) rows; totals = totals; headers = ap (λ those. head_made (values_of those [])) rows; bodies = ap (drop 9) rows }
