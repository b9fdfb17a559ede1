-- The sums of rows that were just appended can be made holes.
use Rattle.std.proofs.Common.{◌≡◌, ℕ, ◌+◌, ◌<◌, ◌≤◌, ◌⊎◌, inl, inr, List, [], ◌∷◌, ◌++◌, length, get_or, slice_index, take, arith, refl, ap, subst, sym}
use Rattle.std.proofs.Common.{◌∙◌, append_assoc, length-append, get_or-drop}
use Rattle.std.proofs.lemmas.List.{drop_at}
use Rattle.std.specs.List.{AllByRecursion}
use Rattle.vt_bytes.proofs.Each.{each_weaker, each_from, each_append}
use Rattle.vt_layout.specs.declared.row.Row.{Row}
use Rattle.vt_layout.specs.declared.row.Row.TheVariants.{Sum}
use Rattle.vt_layout.specs.Rows.{IsRow, width_of, bytes_of, size, spelled}
use Rattle.vt_layout.proofs.Sizes.{length-bytes_of, length-spelled, size_more, size_room}
use Rattle.blob_holes.specs.declared.hole.PointerHole.{PointerHole}
use Rattle.blob_holes.specs.declared.hole.SumHole.{SumHole}
use Rattle.blob_holes.specs.Blob.{BlobState, IsBlob, IsOutsideField, FitsSum}
use Rattle.blob_holes.specs.Rows.{pointer_of, sum_of, pointer_holes, sum_holes, unsummed, free_behind, IsSum, SumsFit, AreRows}
use Rattle.blob_holes.proofs.RowHoles.{IsFieldIn, IsSumIn, pointers_in, pointers_behind, sums_in, sums_within, sums_more, sum_at}
use Rattle.blob_holes.proofs.Appended.{fields_within, sum_bytes_within}

-- the byte of a sum is zero before the sum is subtracted
zero_byte : (front back : List ℕ) (start at : ℕ) (row : Row) → length front ≡ at
    → AllByRecursion (λ (hole : SumHole). slice_index (front ++ (bytes_of row ++ back)) hole.at ≡ 0) (sum_of start at row)
zero_byte front back start at (Sum covers) size =
    let place : at ≡ at + 0 = omega arith in (
      ap (slice_index (front ++ (0 ∷ back))) place ∙ sym (get_or-drop at (front ++ (0 ∷ back)) 0 0)
          ∙ ap (λ all. slice_index all 0) (drop_at front (0 ∷ back) at size),
      tt,
    )
zero_byte front back start at row size = tt

zero_bytes : (front : List ℕ) (start at : ℕ) (rows : List Row) → AllByRecursion IsRow rows → length front ≡ at
    → AllByRecursion (λ (hole : SumHole). slice_index (front ++ spelled rows) hole.at ≡ 0) (sum_holes start at rows)
zero_bytes front start at [] are size = tt
zero_bytes front start at (row ∷ rows) are size_is =
    let next = at + width_of row in
    let longer : length (front ++ bytes_of row) ≡ next = omega (arith, length-append front (bytes_of row), length-bytes_of row are.0) in
    let rest = zero_bytes (front ++ bytes_of row) start next rows are.1 longer in
    each_append (λ (hole : SumHole). slice_index (front ++ spelled (row ∷ rows)) hole.at ≡ 0) (sum_of start at row) (sum_holes start next rows)
    (zero_byte front (spelled rows) start at row size_is)
    (subst (λ all. AllByRecursion (λ (hole : SumHole). slice_index all hole.at ≡ 0) (sum_holes start next rows))
    (append_assoc front (bytes_of row) (spelled rows)) rest)

-- a sum that may be added: fields lie before it or behind it, and other sums before its layout
sum_fits : (blob : BlobState) (front : List PointerHole) (total free offset start at : ℕ) (row : Row) (rows : List Row) → at ≡ start + offset
    → IsSum total free offset row → start + total ≤ length blob.bytes → blob.pointers ≡ front ++ pointer_holes at (row ∷ rows)
    → AllByRecursion (λ (hole : PointerHole). hole.at + hole.size ≤ at) front → AllByRecursion (λ (sum : SumHole). sum.at < start) blob.sums
    → AllByRecursion (FitsSum blob) (sum_of start at row)
sum_fits blob front total free offset start at (Sum covers) rows place fits within pointers_are before sums_before = (
  record {
    within = omega (arith, fits.2);
    from = omega arith;
    below = omega (arith, fits.1);
    sum_bytes = each_weaker (λ (sum : SumHole). sum.at < start) (λ (sum : SumHole). (at < sum.at) ⊎ (sum.at < at))
        (λ sum a. inr (omega arith)) blob.sums sums_before;
    fields = rw pointers_are (each_append (IsOutsideField at) front (pointer_holes (at + 1) rows)
        (each_weaker (λ (hole : PointerHole). hole.at + hole.size ≤ at) (IsOutsideField at) (λ hole a. inr (omega arith)) front before)
        (each_weaker (λ (hole : PointerHole). at + 1 ≤ hole.at) (IsOutsideField at) (λ hole a. inl (omega arith)) (pointer_holes (at + 1) rows)
        (pointers_behind (at + 1) rows)));
  },
  tt,
)
sum_fits blob front total free offset start at row rows place fits within pointers_are before sums_before = tt

sums_fit : (blob : BlobState) (front : List PointerHole) (total free offset start at : ℕ) (rows : List Row) → at ≡ start + offset
    → SumsFit total free offset rows → start + total ≤ length blob.bytes → blob.pointers ≡ front ++ pointer_holes at rows
    → AllByRecursion (λ (hole : PointerHole). hole.at + hole.size ≤ at) front → AllByRecursion (λ (sum : SumHole). sum.at < start) blob.sums
    → AllByRecursion (FitsSum blob) (sum_holes start at rows)
sums_fit blob front total free offset start at [] place fits within pointers_are before sums_before = tt
sums_fit blob front total free offset start at (row ∷ rows) place fits within pointers_are before sums_before =
    let next = at + width_of row in
    let Before = λ (hole : PointerHole). hole.at + hole.size ≤ next in
    let next_before : AllByRecursion (λ (hole : PointerHole). hole.at + hole.size ≤ next) (front ++ pointer_of at row) =
    each_append Before front (pointer_of at row)
    (each_weaker (λ (hole : PointerHole). hole.at + hole.size ≤ at) Before (λ hole a. omega arith) front before)
    (each_weaker (IsFieldIn at next) Before (λ hole a. a.1) (pointer_of at row) (pointers_in at row)) in
    each_append (FitsSum blob) (sum_of start at row) (sum_holes start next rows)
    (sum_fits blob front total free offset start at row rows place fits.0 within pointers_are before sums_before)
    (sums_fit blob (front ++ pointer_of at row) total (free_behind free row) (offset + width_of row) start next rows (omega arith) fits.1 within
    (pointers_are ∙ sym (append_assoc front (pointer_of at row) (pointer_holes next rows))) next_before sums_before)

module _ (old seen : BlobState) (rows : List Row) (blob : IsBlob old) (are : AreRows rows) (is : seen ≡ unsummed old rows) where
  -- the sums of all rows
  pub all_fit : AllByRecursion (FitsSum seen) (sum_holes (length old.bytes) (length old.bytes) rows)
  all_fit =
      let at = length old.bytes in
      let longer : length seen.bytes ≡ at + size rows =
      ap (λ b. length b.bytes) is ∙ length-append old.bytes (spelled rows) ∙ ap (λ n. at + n) (length-spelled rows are.each) in
      let same_sums : old.sums ≡ seen.sums = sym (ap (λ b. b.sums) is) in
      sums_fit seen old.pointers (size rows) 0 0 at at rows (omega arith) are.sums (omega arith) (ap (λ b. b.pointers) is)
      (fields_within old.bytes old.pointers blob.pointers)
      (subst (AllByRecursion (λ (sum : SumHole). sum.at < at)) same_sums (sum_bytes_within old.bytes old.sums blob.sums))

  pub all_zero : AllByRecursion (λ (hole : SumHole). slice_index seen.bytes hole.at ≡ 0) (sum_holes (length old.bytes) (length old.bytes) rows)
  all_zero =
      let at = length old.bytes in
      let bytes_are : old.bytes ++ spelled rows ≡ seen.bytes = sym (ap (λ b. b.bytes) is) in
      subst (λ bytes. AllByRecursion (λ (hole : SumHole). slice_index bytes hole.at ≡ 0) (sum_holes at at rows)) bytes_are
      (zero_bytes old.bytes at at rows are.each refl)

-- a sum may be added still once sums before it are
pub fits_still : (old seen : BlobState) (more : List SumHole) (hole : SumHole) → seen ≡ record old { sums = old.sums ++ more }
    → FitsSum old hole → AllByRecursion (λ (sum : SumHole). sum.at < hole.at) more → FitsSum seen hole
fits_still old seen more hole is fits before =
    let Other = λ (sum : SumHole). (hole.at < sum.at) ⊎ (sum.at < hole.at) in
    let sum_bytes : AllByRecursion (λ (sum : SumHole). (hole.at < sum.at) ⊎ (sum.at < hole.at)) (old.sums ++ more) =
    each_append Other old.sums more fits.sum_bytes (each_weaker (λ (sum : SumHole). sum.at < hole.at) Other (λ sum a. inr a) more before) in
    let now : FitsSum (record old { sums = old.sums ++ more }) hole = record {
      within = fits.within;
      from = fits.from;
      below = fits.below;
      sum_bytes = sum_bytes;
      fields = fits.fields;
    } in
    subst (λ b. FitsSum b hole) (sym is) now

-- The sums of the first rows are holes, and those of the others can be made ones.
pub record Summed (old seen : BlobState) (start at place : ℕ) (rows : List Row) (k : ℕ) : Type 0 where
  pub fit : AllByRecursion (FitsSum old) (sum_holes start at rows)
  pub zero : AllByRecursion (λ (hole : SumHole). slice_index old.bytes hole.at ≡ 0) (sum_holes start at rows)
  pub here : k < length rows
  pub is : seen ≡ record old { sums = old.sums ++ sum_holes start at (take k rows) }
  pub place_is : place ≡ at + size (take k rows)

module _ (old seen : BlobState) (start at place : ℕ) (rows : List Row) (k : ℕ) (other row : Row) (row_is : row ≡ get_or rows k other)
    (s : Summed old seen start at place rows k) where
  -- what holds of all sums holds of the next row's
  next_sum : (P : SumHole → Type 0) → AllByRecursion P (sum_holes start at rows) → AllByRecursion P (sum_of start place row)
  next_sum P p =
      subst (λ r. AllByRecursion P (sum_of start place r)) (sym row_is)
      (subst (λ a. AllByRecursion P (sum_of start a (get_or rows k other))) (sym s.place_is) (sum_at P start at rows k other s.here p))

  -- it may be added
  pub next_fits : AllByRecursion (FitsSum seen) (sum_of start place row)
  next_fits =
      let place_is = s.place_is in
      let first = take k rows in
      each_from (FitsSum old) (IsSumIn place (place + width_of row)) (FitsSum seen)
      (λ hole fits a. fits_still old seen (sum_holes start at first) hole s.is fits
      (each_weaker (IsSumIn at (at + size first)) (λ (sum : SumHole). sum.at < hole.at) (λ sum b. omega (arith, a.0, b.1)) (sum_holes start at first)
      (sums_within start at first)))
      (sum_of start place row) (next_sum (FitsSum old) s.fit) (sums_in start place row)

  pub next_zero : AllByRecursion (λ (hole : SumHole). slice_index seen.bytes hole.at ≡ 0) (sum_of start place row)
  next_zero =
      let same : old.bytes ≡ seen.bytes = sym (ap (λ b. b.bytes) s.is) in
      subst (λ bytes. AllByRecursion (λ (hole : SumHole). slice_index bytes hole.at ≡ 0) (sum_of start place row)) same
      (next_sum (λ (hole : SumHole). slice_index old.bytes hole.at ≡ 0) s.zero)

  -- the place behind the row
  pub place_more : place + width_of row ≡ at + size (take (k + 1) rows)
  place_more = omega (arith, s.place_is, size_more rows k other s.here, ap width_of row_is)

  pub place_room : place + width_of row ≤ at + size rows
  place_room = omega (arith, s.place_is, size_room rows k other s.here, ap width_of row_is)

  -- one more row has its sum
  pub summed_more : (new : BlobState) → new ≡ record seen { sums = seen.sums ++ sum_of start place row }
      → new ≡ record old { sums = old.sums ++ sum_holes start at (take (k + 1) rows) }
  summed_more new is =
      let first = take k rows in
      let sums : seen.sums ++ sum_of start place row ≡ old.sums ++ sum_holes start at (take (k + 1) rows) =
      ap (λ b. b.sums ++ sum_of start place row) s.is ∙ append_assoc old.sums (sum_holes start at first) (sum_of start place row)
      ∙ ap (λ a. old.sums ++ (sum_holes start at first ++ sum_of start a row)) s.place_is
      ∙ ap (λ r. old.sums ++ (sum_holes start at first ++ sum_of start (at + size first) r)) row_is
      ∙ ap (λ more. old.sums ++ more) (sym (sums_more start at rows k other s.here)) in
      is ∙ ap (λ (b : BlobState). record b { sums = seen.sums ++ sum_of start place row }) s.is ∙ ap (λ all. record old { sums = all }) sums
