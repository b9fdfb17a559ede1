-- Rows that can stand in one another's place, behind others.
use Rattle.std.proofs.Common.{◌≡◌, ℕ, ◌+◌, List, [], ◌∷◌, ◌++◌, length, arith, refl, ap, subst, sym, ◌∙◌, append-nil}
use Rattle.std.specs.List.{AllByRecursion}
use Rattle.vt_bytes.proofs.Each.{each_append, each_front, each_back}
use Rattle.vt_layout.specs.declared.row.Row.{Row}
use Rattle.vt_layout.specs.declared.row.Row.TheVariants.{Sum}
use Rattle.vt_layout.specs.Rows.{IsRow, width_of, size, spelled}
use Rattle.vt_layout.proofs.Sizes.{size-append, spelled-append}
use Rattle.blob_holes.specs.Blob.{BlobState}
use Rattle.blob_holes.specs.Rows.{sum_of, pointer_holes, sum_holes, with_rows, free_behind, SumsFit, IsUnsummed, AreRows}
use Rattle.blob_holes.specs.Plain.{Spells}
use Rattle.blob_holes.proofs.RowHoles.{pointer_holes-append, sum_holes-append}
use Rattle.blob_holes.proofs.Unsummed.{sums_fit}
use Rattle.blob_holes.proofs.Spelled.{size_spelled, no_pointers, are_unsummed}

-- They are written as the same bytes, with the same pointers and no sums. Where the values of the first fit them, those of the second do.
pub record Alike (one two : List Row) : Type 0 where
  pub size_is : size one ≡ size two
  pub written : spelled one ≡ spelled two
  pub pointers : (at : ℕ) → pointer_holes at one ≡ pointer_holes at two
  pub first_unsummed : AllByRecursion IsUnsummed one
  pub second_unsummed : AllByRecursion IsUnsummed two
  pub fit : AllByRecursion IsRow one → AllByRecursion IsRow two

pub alike_same : (rows : List Row) → AllByRecursion IsUnsummed rows → Alike rows rows
alike_same rows unsummed = record {
  size_is = refl;
  written = refl;
  pointers = λ at. refl;
  first_unsummed = unsummed;
  second_unsummed = unsummed;
  fit = λ fit. fit;
}

-- so are plain rows that spell the same bytes
pub alike_spelled : (one two : List Row) (bytes : List ℕ) → Spells one bytes → Spells two bytes → Alike one two
alike_spelled one two bytes first second = record {
  size_is = size_spelled one bytes first ∙ sym (size_spelled two bytes second);
  written = first.written ∙ sym second.written;
  pointers = λ at. no_pointers at one first.plain ∙ sym (no_pointers at two second.plain);
  first_unsummed = are_unsummed one first.plain;
  second_unsummed = are_unsummed two second.plain;
  fit = λ fit. second.fit;
}

-- and rows behind others, where both are
pub alike-append : (one two more others : List Row) → Alike one two → Alike more others → Alike (one ++ more) (two ++ others)
alike-append one two more others front back = record {
  size_is = omega (arith, front.size_is, back.size_is, size-append one more, size-append two others);
  written = spelled-append one more ∙ ap (λ all. all ++ spelled more) front.written ∙ ap (λ all. spelled two ++ all) back.written
      ∙ sym (spelled-append two others);
  pointers = λ at. pointer_holes-append at one more ∙ ap (λ holes. holes ++ pointer_holes (at + size one) more) (front.pointers at)
      ∙ ap (λ holes. pointer_holes at two ++ holes) (back.pointers (at + size one))
      ∙ ap (λ n. pointer_holes at two ++ pointer_holes (at + n) others) front.size_is ∙ sym (pointer_holes-append at two others);
  first_unsummed = each_append IsUnsummed one more front.first_unsummed back.first_unsummed;
  second_unsummed = each_append IsUnsummed two others front.second_unsummed back.second_unsummed;
  fit = λ fit. each_append IsRow two others (front.fit (each_front IsRow one more fit)) (back.fit (each_back IsRow one more fit));
}

-- a row that is no sum has no hole of one
no_sum : (start at : ℕ) (row : Row) → IsUnsummed row → sum_of start at row ≡ []
no_sum start at (Sum covers) unsummed = absurd unsummed
no_sum start at row unsummed = refl

no_sums : (start at : ℕ) (rows : List Row) → AllByRecursion IsUnsummed rows → sum_holes start at rows ≡ []
no_sums start at [] unsummed = refl
no_sums start at (row ∷ rows) unsummed =
    ap (λ holes. holes ++ sum_holes start (at + width_of row) rows) (no_sum start at row unsummed.0) ∙ no_sums start (at + width_of row) rows unsummed.1

pub sums_before : (start at : ℕ) (rows more : List Row) → AllByRecursion IsUnsummed more → sum_holes start at (rows ++ more) ≡ sum_holes start at rows
sums_before start at rows more unsummed =
    sum_holes-append start at rows more ∙ ap (λ holes. sum_holes start at rows ++ holes) (no_sums start (at + size rows) more unsummed)
    ∙ append-nil (sum_holes start at rows)

-- a layout's sums fit it whatever rows without sums stand at its end
front_fits : (total free offset : ℕ) (rows more : List Row) → SumsFit total free offset (rows ++ more) → SumsFit total free offset rows
front_fits total free offset [] more fit = tt
front_fits total free offset (row ∷ rows) more fit =
    (fit.0, front_fits total (free_behind free row) (offset + width_of row) rows more fit.1)

longer_fits : (total free offset : ℕ) (rows more : List Row) → SumsFit total free offset rows → AllByRecursion IsUnsummed more
    → SumsFit total free offset (rows ++ more)
longer_fits total free offset [] more fit unsummed = sums_fit total free offset more unsummed
longer_fits total free offset (row ∷ rows) more fit unsummed =
    (fit.0, longer_fits total (free_behind free row) (offset + width_of row) rows more fit.1 unsummed)

module _ (rows one two : List Row) (alike : Alike one two) where
  pub size_same : size (rows ++ one) ≡ size (rows ++ two)
  size_same = omega (arith, size-append rows one, size-append rows two, alike.size_is)

  pub rows_same : AreRows (rows ++ one) → AreRows (rows ++ two)
  rows_same are = record {
    each = each_append IsRow rows two (each_front IsRow rows one are.each) (alike.fit (each_back IsRow rows one are.each));
    sums = subst (λ total. SumsFit total 0 0 (rows ++ two)) size_same
        (longer_fits (size (rows ++ one)) 0 0 rows two (front_fits (size (rows ++ one)) 0 0 rows one are.sums) alike.second_unsummed);
  }

  spelled_same : spelled (rows ++ one) ≡ spelled (rows ++ two)
  spelled_same = spelled-append rows one ∙ ap (λ all. spelled rows ++ all) alike.written ∙ sym (spelled-append rows two)

  pointers_same : (at : ℕ) → pointer_holes at (rows ++ one) ≡ pointer_holes at (rows ++ two)
  pointers_same at =
      pointer_holes-append at rows one ∙ ap (λ holes. pointer_holes at rows ++ holes) (alike.pointers (at + size rows))
      ∙ sym (pointer_holes-append at rows two)

  sums_same : (start at : ℕ) → sum_holes start at (rows ++ one) ≡ sum_holes start at (rows ++ two)
  sums_same start at = sums_before start at rows one alike.first_unsummed ∙ sym (sums_before start at rows two alike.second_unsummed)

  -- they leave the same file
  pub file_same : (blob : BlobState) → with_rows blob (rows ++ one) ≡ with_rows blob (rows ++ two)
  file_same blob =
      let at : ℕ = length blob.bytes in
      ap (λ all. record blob {
        bytes = blob.bytes ++ all;
        pointers = blob.pointers ++ pointer_holes at (rows ++ one);
        sums = blob.sums ++ sum_holes at at (rows ++ one);
      }) spelled_same
      ∙ ap (λ all. record blob {
        bytes = blob.bytes ++ spelled (rows ++ two);
        pointers = blob.pointers ++ all;
        sums = blob.sums ++ sum_holes at at (rows ++ one);
      }) (pointers_same at)
      ∙ ap (λ all. record blob {
        bytes = blob.bytes ++ spelled (rows ++ two);
        pointers = blob.pointers ++ pointer_holes at (rows ++ two);
        sums = blob.sums ++ all;
      }) (sums_same at at)
