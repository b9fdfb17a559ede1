-- What each blob keeps, after each change.
use Rattle.std.proofs.Common.{◌≡◌, ℕ, ◌+◌, ◌^◌, ◌<◌, ◌≤◌, List, [], ◌∷◌, ◌++◌, length, Result, Ok, Err, arith, ap, subst, sym, ◌∙◌, length-append}
use Rattle.std.specs.Result.{OnOk, OnErr}
use Rattle.std.specs.List.{AllByRecursion}
use Rattle.blob_holes.specs.declared.hole.PointerHole.{PointerHole}
use Rattle.blob_holes.specs.declared.hole.SumHole.{SumHole}
use Rattle.blob_holes.specs.Blob.{BlobState, IsOutsideField, FitsPointer, FitsSum, IsBlob}
use Rattle.vt_bytes.proofs.Each.{each_from, each_push}
use Rattle.blob_holes.proofs.Pointers.{ArePointers-longer, ArePointers-push}
use Rattle.blob_holes.proofs.Sums.{AreSums-longer, AreSums-push}

-- other bytes, and no fewer
pub IsBlob-bytes : (blob : BlobState) (bytes : List ℕ) → IsBlob blob → length blob.bytes ≤ length bytes → length bytes < 2 ^ 32
    → IsBlob (record blob { bytes = bytes })
IsBlob-bytes blob bytes h longer short = record {
  short = short;
  pointers = ArePointers-longer blob.bytes bytes blob.pointers longer h.pointers;
  sums = AreSums-longer blob.bytes bytes blob.sums longer h.sums;
  apart = h.apart;
}

-- one more pointer hole
pub IsBlob-pointer : (blob : BlobState) (hole : PointerHole) → IsBlob blob → FitsPointer blob hole
    → IsBlob (record blob { pointers = blob.pointers ++ hole ∷ [] })
IsBlob-pointer blob hole h fits = record {
  short = h.short;
  pointers = ArePointers-push blob.bytes blob.pointers hole h.pointers fits.size fits.within fits.fields;
  sums = h.sums;
  apart = each_from (λ (sum : SumHole). AllByRecursion (IsOutsideField sum.at) blob.pointers) (λ (sum : SumHole). IsOutsideField sum.at hole)
      (λ (sum : SumHole). AllByRecursion (IsOutsideField sum.at) (blob.pointers ++ hole ∷ []))
      (λ sum fields outside. each_push (IsOutsideField sum.at) blob.pointers hole fields outside) blob.sums h.apart fits.sum_bytes;
}

-- one more sum hole
pub IsBlob-sum : (blob : BlobState) (hole : SumHole) → IsBlob blob → FitsSum blob hole → IsBlob (record blob { sums = blob.sums ++ hole ∷ [] })
IsBlob-sum blob hole h fits = record {
  short = h.short;
  pointers = h.pointers;
  sums = AreSums-push blob.bytes blob.sums hole h.sums fits.within fits.from fits.below fits.sum_bytes;
  apart = each_push (λ (sum : SumHole). AllByRecursion (IsOutsideField sum.at) blob.pointers) blob.sums hole h.apart fits.fields;
}

-- bytes are appended, from the blob as the code sees it
pub kept_appended : (old seen : BlobState) (bytes more : List ℕ) → seen ≡ old → IsBlob seen → bytes ≡ seen.bytes ++ more
    → length old.bytes + length more < 2 ^ 32 → IsBlob (record seen { bytes = bytes })
kept_appended old seen bytes more e h appended short =
    let size : length bytes ≡ length seen.bytes + length more = ap length appended ∙ length-append seen.bytes more in
    let same : length seen.bytes ≡ length old.bytes = ap (λ b. length b.bytes) e in
    IsBlob-bytes seen bytes h (omega arith) (omega arith)

-- they are appended, or after a refusal not
pub kept_either : {E : Type 0} (answer : Result (Unit {0}) E) (old seen : BlobState) (bytes more : List ℕ) → seen ≡ old → IsBlob seen
    → OnOk answer (bytes ≡ seen.bytes ++ more) → OnErr answer (bytes ≡ seen.bytes) → length old.bytes + length more < 2 ^ 32
    → IsBlob (record seen { bytes = bytes })
kept_either (Ok done) old seen bytes more e h appended same short = kept_appended old seen bytes more e h appended short
kept_either (Err fault) old seen bytes more e h appended same short = subst (λ all. IsBlob (record seen { bytes = all })) (sym same) h

-- a pointer hole is added, from the blob as the code sees it
pub kept_pointer : (old seen : BlobState) (hole : PointerHole) (bytes : List ℕ) (pointers : List PointerHole) → seen ≡ old → IsBlob seen
    → FitsPointer old hole → pointers ≡ seen.pointers ++ hole ∷ [] → length bytes ≡ length seen.bytes
    → IsBlob (record seen { bytes = bytes; pointers = pointers })
kept_pointer old seen hole bytes pointers e h fits added size =
    let fits_seen : FitsPointer seen hole = subst (λ b. FitsPointer b hole) (sym e) fits in
    let short = h.short in
    subst (λ all. IsBlob (record seen { bytes = bytes; pointers = all })) (sym added)
    (IsBlob-bytes (record seen { pointers = seen.pointers ++ hole ∷ [] }) bytes (IsBlob-pointer seen hole h fits_seen) (omega arith) (omega arith))

-- a sum hole is added, from the blob as the code sees it
pub kept_sum : (old seen : BlobState) (hole : SumHole) (bytes : List ℕ) (sums : List SumHole) → seen ≡ old → IsBlob seen → FitsSum old hole
    → sums ≡ seen.sums ++ hole ∷ [] → length bytes ≡ length seen.bytes → IsBlob (record seen { bytes = bytes; sums = sums })
kept_sum old seen hole bytes sums e h fits added size =
    let fits_seen : FitsSum seen hole = subst (λ b. FitsSum b hole) (sym e) fits in
    let short = h.short in
    subst (λ all. IsBlob (record seen { bytes = bytes; sums = all })) (sym added)
    (IsBlob-bytes (record seen { sums = seen.sums ++ hole ∷ [] }) bytes (IsBlob-sum seen hole h fits_seen) (omega arith) (omega arith))
