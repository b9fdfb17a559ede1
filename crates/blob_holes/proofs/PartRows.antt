-- Parts, the rows that stand for them, and layouts that end with parts.
use Rattle.std.proofs.Common.{◌≡◌, ℕ, ◌+◌, ◌^◌, ◌<◌, ◌≤◌, List, [], ◌∷◌, ◌++◌, length, get_or, take, arith, refl, ap, subst, sym, ◌∙◌, append-nil}
use Rattle.std.proofs.lemmas.List.{length-map, take-map, get_or-map}
use Rattle.std.specs.Borrow.{Bor}
use Rattle.std.specs.List.{AllByRecursion}
use Rattle.vt_bytes.proofs.Each.{each_at, each_map}
use Rattle.vt_layout.specs.declared.row.Row.{Row}
use Rattle.vt_layout.specs.declared.row.Row.TheVariants.{Pointer as PointerRow}
use Rattle.vt_layout.specs.Rows.{IsRow, width_of, bytes_of, size}
use Rattle.vt_layout.proofs.Sizes.{size_more, size_room}
use Rattle.blob_holes.specs.declared.part.Part.{Part}
use Rattle.blob_holes.specs.declared.part.Part.TheVariants.{Bytes, Pointer}
use Rattle.blob_holes.specs.Blob.{BlobState, IsBlob, next_place, aligned}
use Rattle.blob_holes.specs.Rows.{pointer_of, sum_holes, unsummed, with_rows, IsUnsummed, AreRows}
use Rattle.blob_holes.specs.Plain.{Spells, bytes_row}
use Rattle.blob_holes.specs.Parts.{part_row, part_rows, StandFor}
use Rattle.blob_holes.specs.Appended.{IsAppended, IsAppendedWith}
use Rattle.blob_holes.proofs.Appended.{row_room, unsummed_more}
use Rattle.blob_holes.proofs.Spelled.{one_row}
use Rattle.blob_holes.proofs.Alike.{Alike, alike_same, alike_spelled, alike-append, sums_before, size_same, rows_same, file_same}
use Rattle.blob_holes.proofs.RowsKept.{layout_appended}

-- one row of each part stands for parts
pub canonical : (parts : List Part) → StandFor parts (part_rows parts)
canonical [] = refl
canonical (Bytes bytes ∷ parts) = (bytes_row bytes.now ∷ [], part_rows parts, refl, one_row bytes.now, canonical parts)
canonical (Pointer target offset ∷ parts) = (part_rows parts, refl, canonical parts)

-- rows that spell bytes stand for these alone
pub bytes_alone : (bytes : Bor (List ℕ)) (rows : List Row) → Spells rows bytes.now → StandFor (Bytes bytes ∷ []) rows
bytes_alone bytes rows spells = (rows, [], sym (append-nil rows), spells, refl)

-- the rows that stand for parts can stand in the place of one row of each
pub stand_alike : (parts : List Part) (rows : List Row) → StandFor parts rows → Alike (part_rows parts) rows
stand_alike [] rows s = subst (Alike []) (sym s) (alike_same [] tt)
stand_alike (Bytes bytes ∷ parts) rows s =
    subst (Alike (part_rows (Bytes bytes ∷ parts))) (sym s.2)
    (alike-append (bytes_row bytes.now ∷ []) s.0 (part_rows parts) s.1
    (alike_spelled (bytes_row bytes.now ∷ []) s.0 bytes.now (one_row bytes.now) s.3) (stand_alike parts s.1 s.4))
stand_alike (Pointer target offset ∷ parts) rows s =
    let row : List Row = PointerRow 4 target offset ∷ [] in
    subst (Alike (part_rows (Pointer target offset ∷ parts))) (sym s.1)
    (alike-append row row (part_rows parts) s.0 (alike_same row (tt, tt)) (stand_alike parts s.0 s.2))

pub stand_size : (parts : List Part) (rows : List Row) → StandFor parts rows → size rows ≡ size (part_rows parts)
stand_size parts rows s = sym (stand_alike parts rows s).size_is

pub stand_fit : (parts : List Part) (rows : List Row) → StandFor parts rows → AllByRecursion IsRow (part_rows parts) → AllByRecursion IsRow rows
stand_fit parts rows s = (stand_alike parts rows s).fit

-- parts have no sums
part_unsummed : (part : Part) → IsUnsummed (part_row part)
part_unsummed (Bytes bytes) = tt
part_unsummed (Pointer target offset) = tt

pub sums_before_parts : (start at : ℕ) (rows : List Row) (parts : List Part)
    → sum_holes start at (rows ++ part_rows parts) ≡ sum_holes start at rows
sums_before_parts start at rows parts = sums_before start at rows (part_rows parts) (each_map IsUnsummed part_row part_unsummed parts)

-- so a layout that ends with parts was appended, whatever rows stand for them
pub appended_with : (align : ℕ) (old new : BlobState) (rows : List Row) (parts : List Part) → IsBlob old → AreRows (rows ++ part_rows parts)
    → next_place align old + size (rows ++ part_rows parts) < 2 ^ 32 → new ≡ with_rows (aligned align old) (rows ++ part_rows parts)
    → IsAppendedWith align old new rows parts
appended_with align old new rows parts blob are short is more stand =
    let alike : Alike (part_rows parts) more = stand_alike parts more stand in
    let longer : next_place align old + size (rows ++ more) < 2 ^ 32 = omega (arith, short, size_same rows (part_rows parts) more alike) in
    subst (λ b. IsAppended align old b (rows ++ more)) (sym (is ∙ file_same rows (part_rows parts) more alike (aligned align old)))
    (layout_appended align old (rows ++ more) blob (rows_same rows (part_rows parts) more alike are) longer)

-- the parts so far, and one more
module _ (parts : List Part) (k : ℕ) (other part : Part) (here : k < length parts) (is : part ≡ get_or parts k other) where
  row_here : k < length (part_rows parts)
  row_here = omega (arith, here, length-map parts part_row)

  row_is : part_row part ≡ get_or (part_rows parts) k (part_row other)
  row_is = ap part_row is ∙ sym (get_or-map part_row parts k other (part_row other) here)

  pub part_is_row : AllByRecursion IsRow (part_rows parts) → IsRow (part_row part)
  part_is_row are = each_at IsRow (part_rows parts) k (part_row other) (part_row part) row_here row_is are

  rows_so_far : (n : ℕ) → take n (part_rows parts) ≡ part_rows (take n parts)
  rows_so_far n = take-map part_row n parts

  pub part_size_room : size (part_rows (take k parts)) + width_of (part_row part) ≤ size (part_rows parts)
  part_size_room = omega (arith, size_room (part_rows parts) k (part_row other) row_here, ap width_of row_is, ap size (rows_so_far k))

  pub part_size_more : size (part_rows (take (k + 1) parts)) ≡ size (part_rows (take k parts)) + width_of (part_row part)
  part_size_more =
      omega (
        arith,
        size_more (part_rows parts) k (part_row other) row_here,
        ap width_of row_is,
        ap size (rows_so_far k),
        ap size (rows_so_far (k + 1)),
      )

  module _ (old seen : BlobState) (are : AllByRecursion IsRow (part_rows parts)) (was : seen ≡ unsummed old (part_rows (take k parts))) where
    seen_rows : seen ≡ unsummed old (take k (part_rows parts))
    seen_rows = was ∙ ap (unsummed old) (sym (rows_so_far k))

    pub part_room : length old.bytes + size (part_rows parts) < 2 ^ 32 → length seen.bytes + width_of (part_row part) < 2 ^ 32
    part_room short = row_room old seen (part_rows parts) k (part_row other) (part_row part) row_here row_is are seen_rows short

    pub parts_more : (new : BlobState)
        → new ≡ record seen {
          bytes = seen.bytes ++ bytes_of (part_row part);
          pointers = seen.pointers ++ pointer_of (length seen.bytes) (part_row part);
        }
        → new ≡ unsummed old (part_rows (take (k + 1) parts))
    parts_more new next =
        unsummed_more old seen new (part_rows parts) k (part_row other) (part_row part) row_here row_is are seen_rows next
        ∙ ap (unsummed old) (rows_so_far (k + 1))
