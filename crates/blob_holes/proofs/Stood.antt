-- Rows that stand in a file: the first of them, and those behind it.
use Rattle.std.proofs.Common.{◌≡◌, ℕ, ◌+◌, ◌<◌, ◌≤◌, ◌⊎◌, inl, inr, List, [], ◌∷◌, ◌++◌, length, take, drop, arith, refl, ap, sym, ◌∙◌, append_assoc}
use Rattle.std.proofs.Common.{append-nil, length-append, length-drop}
use Rattle.std.proofs.lemmas.List.{take_at, drop_at, take-append-le, drop-append-le}
use Rattle.std.specs.List.{AllByRecursion}
use Rattle.vt_bytes.specs.Parts.{part}
use Rattle.vt_bytes.proofs.Each.{each_weaker, each_append, each_back}
use Rattle.vt_layout.specs.declared.row.Row.{Row}
use Rattle.vt_layout.specs.declared.row.Row.TheVariants.{Sum}
use Rattle.vt_layout.specs.Rows.{width_of, bytes_of, size, spelled, IsRow}
use Rattle.vt_layout.proofs.Sizes.{length-bytes_of, length-spelled}
use Rattle.blob_holes.specs.declared.hole.PointerHole.{PointerHole}
use Rattle.blob_holes.specs.declared.hole.SumHole.{SumHole}
use Rattle.blob_holes.specs.Blob.{BlobState, IsBlob, IsOutsideField}
use Rattle.blob_holes.specs.Filled.{IsSolid}
use Rattle.blob_holes.specs.Grown.{Extends}
use Rattle.blob_holes.specs.Rows.{pointer_of, sum_of, pointer_holes, sum_holes, with_rows, free_behind, IsSum, SumsFit, AreRows}
use Rattle.blob_holes.proofs.Pieces.{part_first, part_second}
use Rattle.blob_holes.proofs.RowHoles.{IsFieldIn, IsSumIn, pointers_in, sums_in, pointers_behind, sums_behind}
use Rattle.blob_holes.proofs.Appended.{fields_within, sum_bytes_within}

-- Rows stand at a place of a file, with their holes, and no other hole touches them. Their layout begins at start.
pub record Stands (blob : BlobState) (start at : ℕ) (rows : List Row) : Type 0 where
  pub are : AllByRecursion IsRow rows
  pub within : at + size rows ≤ length blob.bytes
  pub covered : AllByRecursion (λ (hole : SumHole). hole.start + hole.length ≤ length blob.bytes) (sum_holes start at rows)
  pub bytes : part blob.bytes at (size rows) ≡ spelled rows
  pub pointers_before : List PointerHole
  pub pointers_after : List PointerHole
  pub pointers : blob.pointers ≡ pointers_before ++ pointer_holes at rows ++ pointers_after
  pub before : AllByRecursion (λ (hole : PointerHole). hole.at + hole.size ≤ at) pointers_before
  pub after : AllByRecursion (λ (hole : PointerHole). at + size rows ≤ hole.at) pointers_after
  pub sums_before : List SumHole
  pub sums_after : List SumHole
  pub sums : blob.sums ≡ sums_before ++ sum_holes start at rows ++ sums_after
  pub sums_are_before : AllByRecursion (λ (hole : SumHole). hole.at < at) sums_before
  pub sums_are_after : AllByRecursion (λ (hole : SumHole). at + size rows ≤ hole.at) sums_after

-- three lists, the second in two parts
regrouped : {X : Type 0} (a b c d : List X) → a ++ (b ++ c) ++ d ≡ a ++ b ++ c ++ d
regrouped a b c d = simp append_assoc

module _ (blob : BlobState) (start at : ℕ) (row : Row) (rows : List Row) (s : Stands blob start at (row ∷ rows)) where
  -- the rows behind the first
  pub rest_stand : Stands blob start (at + width_of row) rows
  rest_stand =
      let next = at + width_of row in
      let Before = λ (hole : PointerHole). hole.at + hole.size ≤ next in
      let SumBefore = λ (hole : SumHole). hole.at < next in
      record {
        are = s.are.1;
        within = omega (arith, s.within);
        covered = each_back (λ (hole : SumHole). hole.start + hole.length ≤ length blob.bytes) (sum_of start at row) (sum_holes start next rows) s.covered;
        bytes = part_second blob.bytes (bytes_of row) (spelled rows) at (size (row ∷ rows)) (width_of row) (size rows) s.bytes
            (length-bytes_of row s.are.0) (length-spelled rows s.are.1) (omega arith);
        pointers_before = s.pointers_before ++ pointer_of at row;
        pointers_after = s.pointers_after;
        pointers = s.pointers ∙ regrouped s.pointers_before (pointer_of at row) (pointer_holes next rows) s.pointers_after;
        before = each_append Before s.pointers_before (pointer_of at row)
            (each_weaker (λ (hole : PointerHole). hole.at + hole.size ≤ at) Before (λ hole a. omega arith) s.pointers_before s.before)
            (each_weaker (IsFieldIn at next) Before (λ hole a. a.1) (pointer_of at row) (pointers_in at row));
        after = each_weaker (λ (hole : PointerHole). at + size (row ∷ rows) ≤ hole.at) (λ (hole : PointerHole). next + size rows ≤ hole.at)
            (λ hole a. omega arith) s.pointers_after s.after;
        sums_before = s.sums_before ++ sum_of start at row;
        sums_after = s.sums_after;
        sums = s.sums ∙ regrouped s.sums_before (sum_of start at row) (sum_holes start next rows) s.sums_after;
        sums_are_before = each_append SumBefore s.sums_before (sum_of start at row)
            (each_weaker (λ (hole : SumHole). hole.at < at) SumBefore (λ hole a. omega arith) s.sums_before s.sums_are_before)
            (each_weaker (IsSumIn at next) SumBefore (λ hole a. a.1) (sum_of start at row) (sums_in start at row));
        sums_are_after = each_weaker (λ (hole : SumHole). at + size (row ∷ rows) ≤ hole.at) (λ (hole : SumHole). next + size rows ≤ hole.at)
            (λ hole a. omega arith) s.sums_after s.sums_are_after;
      }

  -- the first row's bytes
  pub first_bytes : part blob.bytes at (width_of row) ≡ bytes_of row
  first_bytes =
      part_first blob.bytes (bytes_of row) (spelled rows) at (size (row ∷ rows)) (width_of row) s.bytes (length-bytes_of row s.are.0) (omega arith)

  -- a byte of the first row has no hole but the row's own
  pub first_solid : (k : ℕ) → at ≤ k → k < at + width_of row → AllByRecursion (IsOutsideField k) (pointer_of at row)
      → AllByRecursion (λ (sum : SumHole). (k < sum.at) ⊎ (sum.at < k)) (sum_of start at row) → IsSolid blob k
  first_solid k from below own own_sums =
      let next = at + width_of row in
      let Other = λ (sum : SumHole). (k < sum.at) ⊎ (sum.at < k) in
      record {
        fields = rw s.pointers (each_append (IsOutsideField k) (s.pointers_before ++ pointer_holes at (row ∷ rows)) s.pointers_after
            (each_append (IsOutsideField k) s.pointers_before (pointer_holes at (row ∷ rows))
            (each_weaker (λ (hole : PointerHole). hole.at + hole.size ≤ at) (IsOutsideField k) (λ hole a. inr (omega arith)) s.pointers_before s.before)
            (each_append (IsOutsideField k) (pointer_of at row) (pointer_holes next rows) own
            (each_weaker (λ (hole : PointerHole). next ≤ hole.at) (IsOutsideField k) (λ hole a. inl (omega arith)) (pointer_holes next rows)
            (pointers_behind next rows))))
            (each_weaker (λ (hole : PointerHole). at + size (row ∷ rows) ≤ hole.at) (IsOutsideField k) (λ hole a. inl (omega arith)) s.pointers_after s.after));
        sum_bytes = rw s.sums (each_append Other (s.sums_before ++ sum_holes start at (row ∷ rows)) s.sums_after
            (each_append Other s.sums_before (sum_holes start at (row ∷ rows))
            (each_weaker (λ (hole : SumHole). hole.at < at) Other (λ hole a. inr (omega arith)) s.sums_before s.sums_are_before)
            (each_append Other (sum_of start at row) (sum_holes start next rows) own_sums
            (each_weaker (λ (hole : SumHole). next ≤ hole.at) Other (λ hole a. inl (omega arith)) (sum_holes start next rows) (sums_behind start next rows))))
            (each_weaker (λ (hole : SumHole). at + size (row ∷ rows) ≤ hole.at) Other (λ hole a. inl (omega arith)) s.sums_after s.sums_are_after));
      }

-- the ranges of a layout's sums end in it
covers_end : (total free offset start at : ℕ) (rows : List Row) → SumsFit total free offset rows
    → AllByRecursion (λ (hole : SumHole). hole.start + hole.length ≤ start + total) (sum_holes start at rows)
covers_end total free offset start at [] fit = tt
covers_end total free offset start at (row ∷ rows) fit =
    each_append (λ (hole : SumHole). hole.start + hole.length ≤ start + total) (sum_of start at row) (sum_holes start (at + width_of row) rows)
    (cover_ends total free offset start at row fit.0)
    (covers_end total (free_behind free row) (offset + width_of row) start (at + width_of row) rows fit.1)
  where
    cover_ends : (total free offset start at : ℕ) (row : Row) → IsSum total free offset row
        → AllByRecursion (λ (hole : SumHole). hole.start + hole.length ≤ start + total) (sum_of start at row)
    cover_ends total free offset start at (Sum covers) fit = (omega (arith, fit.2), tt)
    cover_ends total free offset start at row fit = tt

-- rows stand in the file that they were appended to
pub appended_stand : (old new : BlobState) (rows : List Row) → IsBlob old → AreRows rows → new ≡ with_rows old rows
    → Stands new (length old.bytes) (length old.bytes) rows
appended_stand old new rows blob are is =
    let at = length old.bytes in
    let size_is = length-spelled rows are.each in
    let longer : length new.bytes ≡ at + size rows = ap (λ b. length b.bytes) is ∙ length-append old.bytes (spelled rows) ∙ ap (λ n. at + n) size_is in
    let bytes : part (old.bytes ++ spelled rows) at (size rows) ≡ spelled rows =
    ap (take (size rows)) (drop_at old.bytes (spelled rows) at refl) ∙ ap (take (size rows)) (sym (append-nil (spelled rows)))
    ∙ take_at (spelled rows) [] (size rows) size_is in
    record {
      are = are.each;
      within = omega arith;
      covered = each_weaker (λ (hole : SumHole). hole.start + hole.length ≤ at + size rows) (λ (hole : SumHole). hole.start + hole.length ≤ length new.bytes)
          (λ hole a. omega arith) (sum_holes at at rows) (covers_end (size rows) 0 0 at at rows are.sums);
      bytes = ap (λ b. part b.bytes at (size rows)) is ∙ bytes;
      pointers_before = old.pointers;
      pointers_after = [];
      pointers = ap (λ b. b.pointers) is ∙ sym (append-nil (old.pointers ++ pointer_holes at rows));
      before = fields_within old.bytes old.pointers blob.pointers;
      after = tt;
      sums_before = old.sums;
      sums_after = [];
      sums = ap (λ b. b.sums) is ∙ sym (append-nil (old.sums ++ sum_holes at at rows));
      sums_are_before = sum_bytes_within old.bytes old.sums blob.sums;
      sums_are_after = tt;
    }

-- a part of the first bytes
pub part_before : (bytes more : List ℕ) (at count : ℕ) → at + count ≤ length bytes → part (bytes ++ more) at count ≡ part bytes at count
part_before bytes more at count within =
    let rest : count ≤ length (drop at bytes) = omega (arith, length-drop at bytes) in
    ap (take count) (drop-append-le at bytes more (omega arith)) ∙ take-append-le count (drop at bytes) more rest

-- and stand in it still once it has grown
pub still_stand : (blob later : BlobState) (start at : ℕ) (rows : List Row) → Extends blob later → Stands blob start at rows → Stands later start at rows
still_stand blob later start at rows grown s =
    let more = grown.bytes.0 in
    let within = s.within in
    let longer : length blob.bytes ≤ length later.bytes = omega (arith, ap length grown.bytes.1, length-append blob.bytes more) in
    let After = λ (hole : PointerHole). at + size rows ≤ hole.at in
    let SumAfter = λ (hole : SumHole). at + size rows ≤ hole.at in
    record {
      are = s.are;
      within = omega arith;
      covered = each_weaker (λ (hole : SumHole). hole.start + hole.length ≤ length blob.bytes)
          (λ (hole : SumHole). hole.start + hole.length ≤ length later.bytes)
          (λ hole a. omega arith) (sum_holes start at rows) s.covered;
      bytes = ap (λ all. part all at (size rows)) grown.bytes.1 ∙ part_before blob.bytes more at (size rows) s.within ∙ s.bytes;
      pointers_before = s.pointers_before;
      pointers_after = s.pointers_after ++ grown.pointers.0;
      pointers = grown.pointers.1 ∙ ap (λ holes. holes ++ grown.pointers.0) s.pointers
          ∙ append_assoc (s.pointers_before ++ pointer_holes at rows) s.pointers_after grown.pointers.0;
      before = s.before;
      after = each_append After s.pointers_after grown.pointers.0 s.after
          (each_weaker (λ (hole : PointerHole). length blob.bytes ≤ hole.at) After (λ hole a. omega arith) grown.pointers.0 grown.pointers.2);
      sums_before = s.sums_before;
      sums_after = s.sums_after ++ grown.sums.0;
      sums = grown.sums.1 ∙ ap (λ holes. holes ++ grown.sums.0) s.sums
          ∙ append_assoc (s.sums_before ++ sum_holes start at rows) s.sums_after grown.sums.0;
      sums_are_before = s.sums_are_before;
      sums_are_after = each_append SumAfter s.sums_after grown.sums.0 s.sums_are_after
          (each_weaker (λ (hole : SumHole). length blob.bytes ≤ hole.at) SumAfter (λ hole a. omega arith) grown.sums.0 grown.sums.2);
    }
