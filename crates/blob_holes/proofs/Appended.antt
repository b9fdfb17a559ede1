-- Rows that are appended one after the other, and then their sums.
use Rattle.std.proofs.Common.{◌≡◌, ℕ, ◌+◌, ◌^◌, ◌<◌, ◌≤◌, inl, inr, List, [], ◌∷◌, ◌++◌, length, get_or, take, arith, ap, sym, ◌∙◌, append_assoc, length-append}
use Rattle.std.specs.List.{AllByRecursion}
use Rattle.vt_bytes.specs.Numbers.{le_bytes}
use Rattle.vt_bytes.proofs.Numbers.{length-le_bytes}
use Rattle.vt_bytes.proofs.Each.{each_weaker, each_take}
use Rattle.vt_layout.specs.declared.row.Row.{Row}
use Rattle.vt_layout.specs.Rows.{IsRow, IsPointerSize, width_of, bytes_of, size, spelled}
use Rattle.vt_layout.proofs.Sizes.{length-spelled, size_room, spelled_more, spelled-append}
use Rattle.blob_holes.specs.declared.hole.PointerHole.{PointerHole}
use Rattle.blob_holes.specs.declared.hole.SumHole.{SumHole}
use Rattle.blob_holes.specs.Blob.{BlobState, IsBlob, IsOutsideField, AreApart, ArePointers, AreSums, FitsPointer}
use Rattle.blob_holes.specs.Rows.{pointer_of, pointer_holes, unsummed}
use Rattle.blob_holes.proofs.RowHoles.{pointer_holes-append, pointers_more}

-- each field of a blob is in its bytes, and so is the byte of each sum
pub fields_within : (bytes : List ℕ) (holes : List PointerHole) → ArePointers bytes holes
    → AllByRecursion (λ (hole : PointerHole). hole.at + hole.size ≤ length bytes) holes
fields_within bytes [] h = tt
fields_within bytes (hole ∷ holes) h = (h.1, fields_within bytes holes h.3)

pub sum_bytes_within : (bytes : List ℕ) (holes : List SumHole) → AreSums bytes holes
    → AllByRecursion (λ (hole : SumHole). hole.at < length bytes) holes
sum_bytes_within bytes [] h = tt
sum_bytes_within bytes (hole ∷ holes) h = (omega (arith, h.0, h.2), sum_bytes_within bytes holes h.4)

-- a pointer in bytes that were just appended may be added
pub new_pointer_fits : (old new : BlobState) (offset : ℕ) (hole : PointerHole) → IsBlob old
    → new ≡ record old { bytes = old.bytes ++ le_bytes hole.size offset } → hole.at ≡ length old.bytes → IsPointerSize hole.size → FitsPointer new hole
new_pointer_fits old new offset hole blob is at_end size =
    let longer : length new.bytes ≡ length old.bytes + hole.size =
    ap (λ b. length b.bytes) is ∙ length-append old.bytes (le_bytes hole.size offset) ∙ ap (λ n. length old.bytes + n) (length-le_bytes hole.size offset) in
    record {
      size = size;
      within = omega arith;
      fields = rw is (each_weaker (λ (other : PointerHole). other.at + other.size ≤ length old.bytes) (AreApart hole)
          (λ other within. inr (omega arith)) old.pointers (fields_within old.bytes old.pointers blob.pointers));
      sum_bytes = rw is (each_weaker (λ (sum : SumHole). sum.at < length old.bytes) (λ (sum : SumHole). IsOutsideField sum.at hole)
          (λ sum within. inl (omega arith)) old.sums (sum_bytes_within old.bytes old.sums blob.sums));
    }

-- the rows so far leave room for the next one
size_seen : (old seen : BlobState) (rows : List Row) (k : ℕ) → AllByRecursion IsRow rows → seen ≡ unsummed old (take k rows)
    → length seen.bytes ≡ length old.bytes + size (take k rows)
size_seen old seen rows k are is =
    ap (λ b. length b.bytes) is ∙ length-append old.bytes (spelled (take k rows))
    ∙ ap (λ n. length old.bytes + n) (length-spelled (take k rows) (each_take IsRow rows k are))

pub row_room : (old seen : BlobState) (rows : List Row) (k : ℕ) (other row : Row) → k < length rows → row ≡ get_or rows k other
    → AllByRecursion IsRow rows → seen ≡ unsummed old (take k rows) → length old.bytes + size rows < 2 ^ 32
    → length seen.bytes + width_of row < 2 ^ 32
row_room old seen rows k other row l row_is are is short =
    omega (arith, size_seen old seen rows k are is, size_room rows k other l, ap width_of row_is)

-- one more row is appended
pub unsummed_more : (old seen new : BlobState) (rows : List Row) (k : ℕ) (other row : Row) → k < length rows → row ≡ get_or rows k other
    → AllByRecursion IsRow rows → seen ≡ unsummed old (take k rows)
    → new ≡ record seen { bytes = seen.bytes ++ bytes_of row; pointers = seen.pointers ++ pointer_of (length seen.bytes) row }
    → new ≡ unsummed old (take (k + 1) rows)
unsummed_more old seen new rows k other row l row_is are was is =
    let at = length old.bytes in
    let bytes : seen.bytes ++ bytes_of row ≡ old.bytes ++ spelled (take (k + 1) rows) =
    ap (λ b. b.bytes ++ bytes_of row) was ∙ append_assoc old.bytes (spelled (take k rows)) (bytes_of row)
    ∙ ap (λ r. old.bytes ++ (spelled (take k rows) ++ bytes_of r)) row_is ∙ ap (λ more. old.bytes ++ more) (sym (spelled_more rows k other l)) in
    let pointers : seen.pointers ++ pointer_of (length seen.bytes) row ≡ old.pointers ++ pointer_holes at (take (k + 1) rows) =
    ap (λ n. seen.pointers ++ pointer_of n row) (size_seen old seen rows k are was)
    ∙ ap (λ b. b.pointers ++ pointer_of (at + size (take k rows)) row) was
    ∙ append_assoc old.pointers (pointer_holes at (take k rows)) (pointer_of (at + size (take k rows)) row)
    ∙ ap (λ r. old.pointers ++ (pointer_holes at (take k rows) ++ pointer_of (at + size (take k rows)) r)) row_is
    ∙ ap (λ more. old.pointers ++ more) (sym (pointers_more at rows k other l)) in
    let sums : seen.sums ≡ old.sums = ap (λ b. b.sums) was in
    is ∙ ap (λ all. record seen { bytes = all; pointers = seen.pointers ++ pointer_of (length seen.bytes) row }) bytes
    ∙ ap (λ all. record seen { bytes = old.bytes ++ spelled (take (k + 1) rows); pointers = all }) pointers
    ∙ ap (λ all. record old {
      bytes = old.bytes ++ spelled (take (k + 1) rows);
      pointers = old.pointers ++ pointer_holes at (take (k + 1) rows);
      sums = all;
    }) sums

-- rows that are appended behind others
pub unsummed-append : (old seen new : BlobState) (rows more : List Row) → AllByRecursion IsRow rows → seen ≡ unsummed old rows → new ≡ unsummed seen more
    → new ≡ unsummed old (rows ++ more)
unsummed-append old seen new rows more are was is =
    let at = length old.bytes in
    let place : length seen.bytes ≡ at + size rows =
    ap (λ b. length b.bytes) was ∙ length-append old.bytes (spelled rows) ∙ ap (λ n. at + n) (length-spelled rows are) in
    let bytes : seen.bytes ++ spelled more ≡ old.bytes ++ spelled (rows ++ more) =
    ap (λ b. b.bytes ++ spelled more) was ∙ append_assoc old.bytes (spelled rows) (spelled more)
    ∙ ap (λ all. old.bytes ++ all) (sym (spelled-append rows more)) in
    let pointers : seen.pointers ++ pointer_holes (length seen.bytes) more ≡ old.pointers ++ pointer_holes at (rows ++ more) =
    ap (λ n. seen.pointers ++ pointer_holes n more) place ∙ ap (λ b. b.pointers ++ pointer_holes (at + size rows) more) was
    ∙ append_assoc old.pointers (pointer_holes at rows) (pointer_holes (at + size rows) more)
    ∙ ap (λ all. old.pointers ++ all) (sym (pointer_holes-append at rows more)) in
    let sums : seen.sums ≡ old.sums = ap (λ b. b.sums) was in
    is ∙ ap (λ all. record seen { bytes = all; pointers = seen.pointers ++ pointer_holes (length seen.bytes) more }) bytes
    ∙ ap (λ all. record seen { bytes = old.bytes ++ spelled (rows ++ more); pointers = all }) pointers
    ∙ ap (λ all. record old {
      bytes = old.bytes ++ spelled (rows ++ more);
      pointers = old.pointers ++ pointer_holes at (rows ++ more);
      sums = all;
    }) sums
