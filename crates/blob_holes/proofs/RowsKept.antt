-- A file with rows at its end, by the definitions alone: it is a file with holes still, and the rows were appended to it.
use Rattle.std.proofs.Common.{◌≡◌, ℕ, ◌+◌, ◌-◌, ◌^◌, ◌<◌, ◌≤◌, List, [], ◌∷◌, ◌++◌, length, replicate, arith, refl, ap, subst, sym, ◌∙◌}
use Rattle.std.proofs.Common.{append-nil, append_assoc, length-append}
use Rattle.std.specs.List.{AllByRecursion}
use Rattle.vt_bytes.specs.Numbers.{le_bytes}
use Rattle.vt_bytes.proofs.Each.{each_weaker, each_from, each_front, each_back}
use Rattle.vt_layout.specs.declared.row.Row.{Row}
use Rattle.vt_layout.specs.declared.row.Row.TheVariants.{Pointer, Sum}
use Rattle.vt_layout.specs.Rows.{IsRow, width_of, bytes_of, size}
use Rattle.vt_layout.specs.Shown.{LayoutHeld}
use Rattle.vt_layout.proofs.Sizes.{length-bytes_of}
use Rattle.blob_holes.specs.declared.hole.PointerHole.{PointerHole}
use Rattle.blob_holes.specs.declared.hole.SumHole.{SumHole}
use Rattle.blob_holes.specs.Blob.{BlobState, IsBlob, FitsSum, next_place, aligned}
use Rattle.blob_holes.specs.Held.{WhereHeld}
use Rattle.blob_holes.specs.Rows.{pointer_of, sum_of, sum_holes, unsummed, with_rows, AreRows}
use Rattle.blob_holes.specs.Appended.{IsAppended}
use Rattle.blob_holes.proofs.Kept.{IsBlob-bytes, IsBlob-pointer, IsBlob-sum}
use Rattle.blob_holes.proofs.Appended.{new_pointer_fits, unsummed-append}
use Rattle.blob_holes.proofs.RowHoles.{IsSumIn, sums_in, sums_behind}
use Rattle.blob_holes.proofs.SumsFree.{all_fit, fits_still}
use Rattle.blob_holes.proofs.HeldRows.{held_where_appended}
use Rattle.blob_holes.proofs.Grew.{length-aligned, size_by_rows, grown_aligned, linkable_aligned, linkable_by_rows}

-- a file with these bytes and these pointers
with_parts : BlobState → List ℕ → List PointerHole → BlobState
with_parts old bytes pointers = record old { bytes = bytes; pointers = pointers }

-- with the bytes of one more row
longer_kept : (old : BlobState) (row : Row) → IsBlob old → IsRow row → length old.bytes + width_of row < 2 ^ 32
    → IsBlob (record old { bytes = old.bytes ++ bytes_of row })
longer_kept old row blob is short =
    let longer : length (old.bytes ++ bytes_of row) ≡ length old.bytes + width_of row =
    length-append old.bytes (bytes_of row) ∙ ap (λ n. length old.bytes + n) (length-bytes_of row is) in
    IsBlob-bytes old (old.bytes ++ bytes_of row) blob (omega arith) (omega arith)

-- with a row that has no pointer
plain_kept : (old : BlobState) (row : Row) → pointer_of (length old.bytes) row ≡ [] → IsBlob old → IsRow row
    → length old.bytes + width_of row < 2 ^ 32 → IsBlob (unsummed old (row ∷ []))
unfolding with_parts
plain_kept old row none blob is short =
    subst (λ b. IsBlob (with_parts old (old.bytes ++ b) (old.pointers ++ (pointer_of (length old.bytes) row ++ [])))) (sym (append-nil (bytes_of row)))
    (subst (λ p. IsBlob (with_parts old (old.bytes ++ bytes_of row) (old.pointers ++ (p ++ [])))) (sym none)
    (subst (λ p. IsBlob (with_parts old (old.bytes ++ bytes_of row) p)) (sym (append-nil old.pointers)) (longer_kept old row blob is short)))

-- with any row
row_kept : (old : BlobState) (row : Row) → IsBlob old → IsRow row → length old.bytes + width_of row < 2 ^ 32 → IsBlob (unsummed old (row ∷ []))
unfolding with_parts
row_kept old (Pointer width target offset) blob is short =
    let hole : PointerHole = record { at = length old.bytes; size = width; target = target } in
    let longer : BlobState = record old { bytes = old.bytes ++ le_bytes width offset } in
    subst (λ b. IsBlob (with_parts old (old.bytes ++ b) (old.pointers ++ hole ∷ []))) (sym (append-nil (le_bytes width offset)))
    (IsBlob-pointer longer hole (longer_kept old (Pointer width target offset) blob is short)
    (new_pointer_fits old longer offset hole blob refl refl is.0))
row_kept old row blob is short = plain_kept old row refl blob is short

-- with all rows, whose sums are no holes yet
unsummed_kept : (old : BlobState) (rows : List Row) → IsBlob old → AllByRecursion IsRow rows → length old.bytes + size rows < 2 ^ 32
    → IsBlob (unsummed old rows)
unfolding with_parts
unsummed_kept old [] blob are short =
    subst (λ b. IsBlob (with_parts old b (old.pointers ++ []))) (sym (append-nil old.bytes))
    (subst (λ p. IsBlob (with_parts old old.bytes p)) (sym (append-nil old.pointers)) blob)
unsummed_kept old (row ∷ rows) blob are short =
    let one : BlobState = unsummed old (row ∷ []) in
    let longer : length one.bytes ≡ length old.bytes + width_of row =
    length-append old.bytes (bytes_of row ++ []) ∙ ap (λ b. length old.bytes + length b) (append-nil (bytes_of row))
    ∙ ap (λ n. length old.bytes + n) (length-bytes_of row are.0) in
    subst IsBlob (unsummed-append old one (unsummed one rows) (row ∷ []) rows (are.0, tt) refl refl)
    (unsummed_kept one rows (row_kept old row blob are.0 (omega arith)) are.1 (omega arith))

-- with the sum of one more row
sum_kept : (blob : BlobState) (start at : ℕ) (row : Row) → IsBlob blob → AllByRecursion (FitsSum blob) (sum_of start at row)
    → IsBlob (record blob { sums = blob.sums ++ sum_of start at row })
sum_kept blob start at (Sum covers) kept fits = IsBlob-sum blob (record { at = at; start = start; length = covers }) kept fits.0
sum_kept blob start at row kept fits = subst (λ sums. IsBlob (record blob { sums = sums })) (sym (append-nil blob.sums)) kept

-- with those of all rows
sums_kept : (blob : BlobState) (start at : ℕ) (rows : List Row) → IsBlob blob → AllByRecursion (FitsSum blob) (sum_holes start at rows)
    → IsBlob (record blob { sums = blob.sums ++ sum_holes start at rows })
sums_kept blob start at [] kept fits = subst (λ sums. IsBlob (record blob { sums = sums })) (sym (append-nil blob.sums)) kept
sums_kept blob start at (row ∷ rows) kept fits =
    let next = at + width_of row in
    let more : BlobState = record blob { sums = blob.sums ++ sum_of start at row } in
    let first = each_front (FitsSum blob) (sum_of start at row) (sum_holes start next rows) fits in
    let others : AllByRecursion (FitsSum more) (sum_holes start next rows) =
    each_from (FitsSum blob) (λ (hole : SumHole). next ≤ hole.at) (FitsSum more)
    (λ hole fit behind. fits_still blob more (sum_of start at row) hole refl fit
    (each_weaker (IsSumIn at next) (λ (sum : SumHole). sum.at < hole.at) (λ sum in_row. omega (arith, in_row.1, behind)) (sum_of start at row)
    (sums_in start at row)))
    (sum_holes start next rows) (each_back (FitsSum blob) (sum_of start at row) (sum_holes start next rows) fits) (sums_behind start next rows) in
    subst (λ sums. IsBlob (record blob { sums = sums })) (append_assoc blob.sums (sum_of start at row) (sum_holes start next rows))
    (sums_kept more start next rows (sum_kept blob start at row kept first) others)

-- so a file with rows at its end is a file with holes still
pub with_rows_kept : (old : BlobState) (rows : List Row) → IsBlob old → AreRows rows → length old.bytes + size rows < 2 ^ 32 → IsBlob (with_rows old rows)
with_rows_kept old rows blob are short =
    sums_kept (unsummed old rows) (length old.bytes) (length old.bytes) rows (unsummed_kept old rows blob are.each short)
    (all_fit old (unsummed old rows) rows blob are refl)

-- and so is one with zeros up to a multiple
aligned_kept : (align : ℕ) (old : BlobState) → IsBlob old → next_place align old < 2 ^ 32 → IsBlob (aligned align old)
aligned_kept align old blob short =
    let long = length-aligned align old in
    let behind = length-append old.bytes (replicate (next_place align old - length old.bytes) 0) in
    IsBlob-bytes old (old.bytes ++ replicate (next_place align old - length old.bytes) 0) blob (omega (arith, behind)) (omega (arith, long))

module _ (align : ℕ) (old : BlobState) (rows : List Row) (blob : IsBlob old) (are : AreRows rows) (short : next_place align old + size rows < 2 ^ 32) where
  zeros_kept : IsBlob (aligned align old)
  zeros_kept = aligned_kept align old blob (omega arith)

  -- so is one to which a layout was appended
  pub layout_kept : IsBlob (with_rows (aligned align old) rows)
  layout_kept = with_rows_kept (aligned align old) rows zeros_kept are (omega (arith, length-aligned align old))

  -- and it is as the call that appends says
  pub layout_appended : IsAppended align old (with_rows (aligned align old) rows) rows
  layout_appended =
      let before : BlobState = aligned align old in
      let after : BlobState = with_rows before rows in
      let place : length before.bytes ≡ next_place align old = length-aligned align old in
      record {
        file_is = refl;
        size_is = size_by_rows before after rows are.each refl ∙ ap (λ n. n + size rows) place;
        grown = grown_aligned align old before after rows refl refl;
        linkable = λ linkable. linkable_by_rows before after rows zeros_kept are refl (linkable_aligned align old before blob refl linkable);
        held = subst (λ n. WhereHeld after (λ view address place_of. LayoutHeld view place_of (address + n) rows)) place
            (held_where_appended before after rows zeros_kept are refl);
      }
