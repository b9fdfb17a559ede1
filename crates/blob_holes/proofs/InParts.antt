-- A layout that is appended in two parts.
use Rattle.std.proofs.Common.{◌≡◌, ℕ, ◌+◌, ◌^◌, ◌<◌, List, ◌++◌, length, slice_index, arith, ap, subst, sym, ◌∙◌, append_assoc, length-append}
use Rattle.std.specs.List.{AllByRecursion}
use Rattle.vt_bytes.proofs.Each.{each_weaker, each_from, each_front, each_back}
use Rattle.vt_layout.specs.declared.row.Row.{Row}
use Rattle.vt_layout.specs.Rows.{IsRow, size, spelled}
use Rattle.vt_layout.proofs.Sizes.{length-spelled, size-append}
use Rattle.blob_holes.specs.declared.hole.SumHole.{SumHole}
use Rattle.blob_holes.specs.Blob.{BlobState, IsBlob, FitsSum}
use Rattle.blob_holes.specs.Rows.{sum_holes, unsummed, with_rows, AreRows}
use Rattle.blob_holes.proofs.RowHoles.{IsSumIn, sums_within, sum_holes-append}
use Rattle.blob_holes.proofs.Appended.{unsummed-append}
use Rattle.blob_holes.proofs.SumsFree.{all_fit, all_zero, fits_still}

-- Two parts of a layout are appended, and no sum of them is a hole yet.
pub record InParts (old first second : BlobState) (header body : List Row) (start behind : ℕ) : Type 0 where
  pub blob : IsBlob old
  pub are : AreRows (header ++ body)
  pub short : length old.bytes + size (header ++ body) < 2 ^ 32
  pub first_is : first ≡ unsummed old header
  pub second_is : second ≡ unsummed first body
  pub start_is : start ≡ length old.bytes
  pub behind_is : behind ≡ length first.bytes

-- the second of rows and of others behind them
pub in_parts : (old first second : BlobState) (header body more : List Row) (start behind : ℕ) → IsBlob old → AreRows (header ++ body ++ more)
    → length old.bytes + size (header ++ body ++ more) < 2 ^ 32 → first ≡ unsummed old header → second ≡ unsummed first (body ++ more)
    → start ≡ length old.bytes → behind ≡ length first.bytes → InParts old first second header (body ++ more) start behind
in_parts old first second header body more start behind blob are short first_is second_is start_is behind_is =
    let grouped : header ++ body ++ more ≡ header ++ (body ++ more) = append_assoc header body more in
    record {
      blob = blob;
      are = subst AreRows grouped are;
      short = subst (λ rows. length old.bytes + size rows < 2 ^ 32) grouped short;
      first_is = first_is;
      second_is = second_is;
      start_is = start_is;
      behind_is = behind_is;
    }

module _ (old first second : BlobState) (header body : List Row) (start behind : ℕ) (p : InParts old first second header body start behind) where
  -- both are appended
  whole : second ≡ unsummed old (header ++ body)
  whole = unsummed-append old first second header body (each_front IsRow header body p.are.each) p.first_is p.second_is

  -- where the second begins
  second_at : behind ≡ start + size header
  second_at =
      p.behind_is ∙ ap (λ b. length b.bytes) p.first_is ∙ length-append old.bytes (spelled header)
      ∙ omega (arith, p.start_is, length-spelled header (each_front IsRow header body p.are.each))

  -- what holds of all sums holds of those of the parts
  header_sums : (P : SumHole → Type 0) → AllByRecursion P (sum_holes (length old.bytes) (length old.bytes) (header ++ body))
      → AllByRecursion P (sum_holes start start header)
  header_sums P all =
      subst (λ n. AllByRecursion P (sum_holes n n header)) (sym p.start_is)
      (each_front P (sum_holes (length old.bytes) (length old.bytes) header) (sum_holes (length old.bytes) (length old.bytes + size header) body)
      (subst (AllByRecursion P) (sum_holes-append (length old.bytes) (length old.bytes) header body) all))

  body_sums : (P : SumHole → Type 0) → AllByRecursion P (sum_holes (length old.bytes) (length old.bytes) (header ++ body))
      → AllByRecursion P (sum_holes start behind body)
  body_sums P all =
      subst (λ n. AllByRecursion P (sum_holes start n body)) (sym second_at)
      (subst (λ n. AllByRecursion P (sum_holes n (n + size header) body)) (sym p.start_is)
      (each_back P (sum_holes (length old.bytes) (length old.bytes) header) (sum_holes (length old.bytes) (length old.bytes + size header) body)
      (subst (AllByRecursion P) (sum_holes-append (length old.bytes) (length old.bytes) header body) all)))

  -- so the sums of the first can be made holes
  pub header_fits : AllByRecursion (FitsSum second) (sum_holes start start header)
  header_fits = header_sums (FitsSum second) (all_fit old second (header ++ body) p.blob p.are whole)

  pub header_zero : AllByRecursion (λ (hole : SumHole). slice_index second.bytes hole.at ≡ 0) (sum_holes start start header)
  header_zero = header_sums (λ (hole : SumHole). slice_index second.bytes hole.at ≡ 0) (all_zero old second (header ++ body) p.blob p.are whole)

  pub header_short : start + size header < 2 ^ 32
  header_short = omega (arith, p.start_is, p.short, size-append header body)

  pub body_short : behind + size body < 2 ^ 32
  body_short = omega (arith, second_at, p.start_is, p.short, size-append header body)

  -- and then those of the second
  module _ (third : BlobState) (third_is : third ≡ record second { sums = second.sums ++ sum_holes start start header }) where
    pub body_fits : AllByRecursion (FitsSum third) (sum_holes start behind body)
    body_fits =
        let place = second_at in
        each_from (FitsSum second) (IsSumIn behind (behind + size body)) (FitsSum third)
        (λ hole fits a. fits_still second third (sum_holes start start header) hole third_is fits
        (each_weaker (IsSumIn start (start + size header)) (λ (sum : SumHole). sum.at < hole.at) (λ sum b. omega (arith, a.0, b.1))
        (sum_holes start start header) (sums_within start start header)))
        (sum_holes start behind body) (body_sums (FitsSum second) (all_fit old second (header ++ body) p.blob p.are whole)) (sums_within start behind body)

    pub body_zero : AllByRecursion (λ (hole : SumHole). slice_index third.bytes hole.at ≡ 0) (sum_holes start behind body)
    body_zero =
        let same : second.bytes ≡ third.bytes = sym (ap (λ b. b.bytes) third_is) in
        subst (λ bytes. AllByRecursion (λ (hole : SumHole). slice_index bytes hole.at ≡ 0) (sum_holes start behind body)) same
        (body_sums (λ (hole : SumHole). slice_index second.bytes hole.at ≡ 0) (all_zero old second (header ++ body) p.blob p.are whole))

    -- which makes all rows stand at the file's end
    pub with_parts : (new : BlobState) → new ≡ record third { sums = third.sums ++ sum_holes start behind body } → new ≡ with_rows old (header ++ body)
    with_parts new is =
        let at = length old.bytes in
        let sums_were : second.sums ≡ old.sums = ap (λ b. b.sums) whole in
        let sums : third.sums ++ sum_holes start behind body ≡ old.sums ++ sum_holes at at (header ++ body) =
        ap (λ b. b.sums ++ sum_holes start behind body) third_is
        ∙ ap (λ n. second.sums ++ sum_holes start start header ++ sum_holes start n body) second_at
        ∙ ap (λ n. second.sums ++ sum_holes n n header ++ sum_holes n (n + size header) body) p.start_is
        ∙ ap (λ all. all ++ sum_holes at at header ++ sum_holes at (at + size header) body) sums_were
        ∙ append_assoc old.sums (sum_holes at at header) (sum_holes at (at + size header) body)
        ∙ ap (λ all. old.sums ++ all) (sym (sum_holes-append at at header body)) in
        is ∙ ap (λ (b : BlobState). record b { sums = third.sums ++ sum_holes start behind body }) third_is
        ∙ ap (λ (b : BlobState). record b { sums = third.sums ++ sum_holes start behind body }) whole
        ∙ ap (λ all. record (unsummed old (header ++ body)) { sums = all }) sums
