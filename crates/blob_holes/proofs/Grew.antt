-- A file that has grown by rows, or by zeros before them, and that can be linked still.
use Rattle.std.proofs.Common.{◌≡◌, ℕ, ◌+◌, ◌-◌, ◌^◌, ◌<◌, ◌≤◌, ◌⊎◌, inr, List, [], ◌∷◌, ◌++◌, length, replicate, arith, ap, subst, sym, ◌∙◌, append_assoc}
use Rattle.std.proofs.Common.{length-append}
use Rattle.std.proofs.lemmas.List.{length-replicate}
use Rattle.std.specs.List.{AllByRecursion}
use Rattle.vt_bytes.specs.Numbers.{le}
use Rattle.vt_bytes.specs.Parts.{part}
use Rattle.vt_bytes.proofs.Numbers.{le-le_bytes}
use Rattle.vt_bytes.proofs.Each.{each_weaker, each_from, each_append}
use Rattle.vt_layout.specs.declared.row.Row.{Row}
use Rattle.vt_layout.specs.declared.row.Row.TheVariants.{Pointer, Sum}
use Rattle.vt_layout.specs.Rows.{width_of, size, spelled, IsRow, places_end}
use Rattle.vt_layout.proofs.Sizes.{length-spelled}
use Rattle.blob_holes.specs.declared.hole.PointerHole.{PointerHole}
use Rattle.blob_holes.specs.declared.hole.SumHole.{SumHole}
use Rattle.blob_holes.specs.Blob.{BlobState, IsBlob, AreSums, next_place, aligned}
use Rattle.blob_holes.specs.Filled.{AreInOrder}
use Rattle.blob_holes.specs.Grown.{Extends, IsLinkable}
use Rattle.blob_holes.specs.Rows.{pointer_of, pointer_holes, sum_holes, with_rows, SumsFit, AreRows}
use Rattle.blob_holes.proofs.RowHoles.{pointers_behind, sums_behind}
use Rattle.blob_holes.proofs.Appended.{fields_within}
use Rattle.blob_holes.proofs.Stood.{Stands, rest_stand, first_bytes, appended_stand, part_before}

-- a file's end is no later than the place behind the zeros, and that is where they end
pub length-aligned : (align : ℕ) (blob : BlobState) → length (aligned align blob).bytes ≡ next_place align blob
length-aligned align blob =
    length-append blob.bytes (replicate (next_place align blob - length blob.bytes) 0) ∙ simp length-replicate (omega arith)

-- the size of a file with rows at its end
pub size_by_rows : (old new : BlobState) (rows : List Row) → AllByRecursion IsRow rows → new ≡ with_rows old rows
    → length new.bytes ≡ length old.bytes + size rows
size_by_rows old new rows are is =
    ap (λ b. length b.bytes) is ∙ length-append old.bytes (spelled rows) ∙ ap (λ n. length old.bytes + n) (length-spelled rows are)

-- it has grown
pub grown_by_rows : (old new : BlobState) (rows : List Row) → new ≡ with_rows old rows → Extends old new
grown_by_rows old new rows is = record {
  bytes = (spelled rows, ap (λ b. b.bytes) is);
  pointers = (pointer_holes (length old.bytes) rows, ap (λ b. b.pointers) is, pointers_behind (length old.bytes) rows);
  sums = (sum_holes (length old.bytes) (length old.bytes) rows, ap (λ b. b.sums) is, sums_behind (length old.bytes) (length old.bytes) rows);
}

-- also behind zeros
pub grown_aligned : (align : ℕ) (old seen new : BlobState) (rows : List Row) → seen ≡ aligned align old → new ≡ with_rows seen rows → Extends old new
grown_aligned align old seen new rows zeros is =
    let padding : List ℕ = replicate (next_place align old - length old.bytes) 0 in
    let at = length seen.bytes in
    let behind : length old.bytes ≤ at = omega (arith, ap (λ b. length b.bytes) zeros, length-append old.bytes padding) in
    record {
      bytes = (padding ++ spelled rows, ap (λ b. b.bytes) is ∙ ap (λ b. b.bytes ++ spelled rows) zeros ∙ append_assoc old.bytes padding (spelled rows));
      pointers = (
        pointer_holes at rows,
        ap (λ b. b.pointers) is ∙ ap (λ b. b.pointers ++ pointer_holes at rows) zeros,
        each_weaker (λ (hole : PointerHole). at ≤ hole.at) (λ (hole : PointerHole). length old.bytes ≤ hole.at) (λ hole a. omega arith)
            (pointer_holes at rows) (pointers_behind at rows),
      );
      sums = (
        sum_holes at at rows,
        ap (λ b. b.sums) is ∙ ap (λ b. b.sums ++ sum_holes at at rows) zeros,
        each_weaker (λ (hole : SumHole). at ≤ hole.at) (λ (hole : SumHole). length old.bytes ≤ hole.at) (λ hole a. omega arith) (sum_holes at at rows)
            (sums_behind at at rows),
      );
    }

-- the fields of a blob hold what they held, whatever follows
pub fit_still : (old : BlobState) (more : List ℕ) (place_of : List ℕ → ℕ) → IsBlob old
    → AllByRecursion (λ (hole : PointerHole). le (part old.bytes hole.at hole.size) + place_of hole.target < 256 ^ hole.size) old.pointers
    → AllByRecursion (λ (hole : PointerHole). le (part (old.bytes ++ more) hole.at hole.size) + place_of hole.target < 256 ^ hole.size) old.pointers
fit_still old more place_of blob fit =
    each_from (λ (hole : PointerHole). hole.at + hole.size ≤ length old.bytes)
    (λ (hole : PointerHole). le (part old.bytes hole.at hole.size) + place_of hole.target < 256 ^ hole.size)
    (λ (hole : PointerHole). le (part (old.bytes ++ more) hole.at hole.size) + place_of hole.target < 256 ^ hole.size)
    (λ hole within fits. rw (part_before old.bytes more hole.at hole.size within) fits) old.pointers (fields_within old.bytes old.pointers blob.pointers) fit

-- a file with zeros behind it can be linked still
pub linkable_aligned : (align : ℕ) (old new : BlobState) → IsBlob old → new ≡ aligned align old → IsLinkable old → IsLinkable new
linkable_aligned align old new blob is linkable =
    let padding : List ℕ = replicate (next_place align old - length old.bytes) 0 in
    subst IsLinkable (sym is) (record {
      fit = λ place_of low. fit_still old padding place_of blob (linkable.fit place_of low);
      ordered = linkable.ordered;
    })

-- each pointer of the rows has room for any place below 3 GiB
number_fits : (blob : BlobState) (place_of : List ℕ → ℕ) → ((name : List ℕ) → place_of name < places_end) → (start at : ℕ) (row : Row) (rows : List Row)
    → Stands blob start at (row ∷ rows)
    → AllByRecursion (λ (hole : PointerHole). le (part blob.bytes hole.at hole.size) + place_of hole.target < 256 ^ hole.size) (pointer_of at row)
number_fits blob place_of low start at (Pointer width target offset) rows s =
    let number : le (part blob.bytes at width) ≡ offset =
    ap le (first_bytes blob start at (Pointer width target offset) rows s) ∙ le-le_bytes width offset (omega (arith, s.are.0.1)) in
    (omega (arith, s.are.0.1, low target), tt)
number_fits blob place_of low start at row rows s = tt

numbers_fit : (blob : BlobState) (place_of : List ℕ → ℕ) → ((name : List ℕ) → place_of name < places_end) → (start at : ℕ) (rows : List Row)
    → Stands blob start at rows
    → AllByRecursion (λ (hole : PointerHole). le (part blob.bytes hole.at hole.size) + place_of hole.target < 256 ^ hole.size) (pointer_holes at rows)
numbers_fit blob place_of low start at [] s = tt
numbers_fit blob place_of low start at (row ∷ rows) s =
    each_append (λ (hole : PointerHole). le (part blob.bytes hole.at hole.size) + place_of hole.target < 256 ^ hole.size) (pointer_of at row)
    (pointer_holes (at + width_of row) rows)
    (number_fits blob place_of low start at row rows s)
    (numbers_fit blob place_of low start (at + width_of row) rows (rest_stand blob start at row rows s))

-- the sums of rows lie behind where their layout was free, and are in order
sums_free : (total free offset start at : ℕ) (rows : List Row) → at ≡ start + offset → SumsFit total free offset rows
    → AllByRecursion (λ (hole : SumHole). start + free ≤ hole.at) (sum_holes start at rows)
sums_free total free offset start at [] is fit = tt
sums_free total free offset start at (Sum covers ∷ rows) is fit = (
  omega (arith, fit.0.0),
  each_weaker (λ (hole : SumHole). start + covers ≤ hole.at) (λ (hole : SumHole). start + free ≤ hole.at) (λ hole a. omega (arith, fit.0.0, fit.0.1))
      (sum_holes start (at + 1) rows) (sums_free total covers (offset + 1) start (at + 1) rows (omega arith) fit.1),
)
sums_free total free offset start at (row ∷ rows) is fit =
    sums_free total free (offset + width_of row) start (at + width_of row) rows (omega arith) fit.1

sums_ordered : (total free offset start at : ℕ) (rows : List Row) → at ≡ start + offset → SumsFit total free offset rows
    → AreInOrder (sum_holes start at rows)
sums_ordered total free offset start at [] is fit = tt
sums_ordered total free offset start at (Sum covers ∷ rows) is fit = (
  each_weaker (λ (hole : SumHole). start + covers ≤ hole.at) (λ (later : SumHole). (later.at < start) ⊎ (start + covers ≤ later.at)) (λ later a. inr a)
      (sum_holes start (at + 1) rows) (sums_free total covers (offset + 1) start (at + 1) rows (omega arith) fit.1),
  sums_ordered total covers (offset + 1) start (at + 1) rows (omega arith) fit.1,
)
sums_ordered total free offset start at (row ∷ rows) is fit =
    sums_ordered total free (offset + width_of row) start (at + width_of row) rows (omega arith) fit.1

-- sums behind others that are in order
in_order_more : (bytes : List ℕ) (sums more : List SumHole) → AreSums bytes sums → AreInOrder sums → AreInOrder more
    → AllByRecursion (λ (hole : SumHole). length bytes ≤ hole.at) more → AreInOrder (sums ++ more)
in_order_more bytes [] more h order ordered behind = ordered
in_order_more bytes (hole ∷ sums) more h order ordered behind =
    let Later = λ (later : SumHole). (later.at < hole.start) ⊎ (hole.start + hole.length ≤ later.at) in (
      each_append Later sums more order.0 (each_weaker (λ (later : SumHole). length bytes ≤ later.at) Later (λ later a. inr (omega (arith, h.0))) more behind),
      in_order_more bytes sums more h.4 order.1 ordered behind,
    )

-- a file with rows at its end can be linked still
pub linkable_by_rows : (old new : BlobState) (rows : List Row) → IsBlob old → AreRows rows → new ≡ with_rows old rows → IsLinkable old → IsLinkable new
linkable_by_rows old new rows blob are is linkable =
    let at = length old.bytes in
    let bytes_are : old.bytes ++ spelled rows ≡ new.bytes = sym (ap (λ b. b.bytes) is) in
    let pointers_are : new.pointers ≡ old.pointers ++ pointer_holes at rows = ap (λ b. b.pointers) is in
    let sums_are : new.sums ≡ old.sums ++ sum_holes at at rows = ap (λ b. b.sums) is in
    record {
      fit = λ place_of low.
          let Fits = λ (hole : PointerHole). le (part new.bytes hole.at hole.size) + place_of hole.target < 256 ^ hole.size in
          let were = subst
          (λ bytes. AllByRecursion (λ (hole : PointerHole). le (part bytes hole.at hole.size) + place_of hole.target < 256 ^ hole.size) old.pointers) bytes_are
          (fit_still old (spelled rows) place_of blob (linkable.fit place_of low)) in
          rw pointers_are (each_append Fits old.pointers (pointer_holes at rows) were
          (numbers_fit new place_of low at at rows (appended_stand old new rows blob are is)));
      ordered = rw sums_are (in_order_more old.bytes old.sums (sum_holes at at rows) blob.sums linkable.ordered
          (sums_ordered (size rows) 0 0 at at rows (omega arith) are.sums) (sums_behind at at rows));
    }
