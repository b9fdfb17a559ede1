-- Rows that stand in a file are held where a view holds it filled.
use Rattle.std.proofs.Common.{◌≡◌, ℕ, ◌+◌, List, [], ◌∷◌, ◌++◌, Some, length, arith, refl, ap, subst, ◌∙◌}
use Rattle.std.specs.List.{AllByRecursion}
use Rattle.std.specs.Option.{option_map}
use Rattle.vt_bytes.specs.Numbers.{le, byte_sum}
use Rattle.vt_bytes.specs.Parts.{part}
use Rattle.vt_bytes.specs.View.{View, bytes_in, Holds}
use Rattle.vt_bytes.proofs.Numbers.{le-le_bytes}
use Rattle.vt_bytes.proofs.Each.{each_front, each_midst}
use Rattle.vt_bytes.proofs.Views.{bytes_in-holds}
use Rattle.vt_layout.specs.declared.row.Row.{Row}
use Rattle.vt_layout.specs.declared.row.Row.TheVariants.{Pointer, Sum}
use Rattle.vt_layout.specs.Rows.{width_of, bytes_of}
use Rattle.vt_layout.specs.Shown.{RowHeld, Held, LayoutHeld}
use Rattle.blob_holes.specs.declared.hole.PointerHole.{PointerHole}
use Rattle.blob_holes.specs.declared.hole.SumHole.{SumHole}
use Rattle.blob_holes.specs.Blob.{BlobState, IsBlob}
use Rattle.blob_holes.specs.Filled.{IsFilled}
use Rattle.blob_holes.specs.Rows.{pointer_of, sum_of, pointer_holes, sum_holes, with_rows, AreRows}
use Rattle.blob_holes.specs.Held.{WhereHeld}
use Rattle.blob_holes.proofs.Fill.{solid_part}
use Rattle.blob_holes.proofs.Stood.{Stands, rest_stand, first_bytes, first_solid, appended_stand, still_stand}

module _ (view : View) (address : ℕ) (blob : BlobState) (place_of : List ℕ → ℕ) (bytes : List ℕ) (holds : Holds view address bytes)
    (filled : IsFilled blob place_of bytes) where
  -- a first row without holes
  solid_held : (start at : ℕ) (row : Row) (rows : List Row) → Stands blob start at (row ∷ rows) → pointer_of at row ≡ [] → sum_of start at row ≡ []
      → bytes_in view (address + at) (width_of row) ≡ Some (bytes_of row)
  solid_held start at row rows s no_pointer no_sum =
      bytes_in-holds view address bytes at (width_of row) holds (omega (arith, s.within, filled.size))
      ∙ ap Some (solid_part blob place_of bytes at (width_of row) filled (λ i below. first_solid blob start at row rows s (at + i) (omega arith) (omega arith)
      (rw no_pointer tt) (rw no_sum tt))
      ∙ first_bytes blob start at row rows s)

  -- the first row
  row_held : (start at : ℕ) (row : Row) (rows : List Row) → Stands blob start at (row ∷ rows) → RowHeld view place_of (address + start) (address + at) row
  row_held start at (Pointer width target offset) rows s =
      ap (option_map le) (bytes_in-holds view address bytes at width holds (omega (arith, s.within, filled.size)))
      ∙ ap Some (added ∙ ap (λ number. number + place_of target) (ap le (first_bytes blob start at (Pointer width target offset) rows s)
      ∙ le-le_bytes width offset (omega (arith, s.are.0.1))))
    where
      added : le (part bytes at width) ≡ le (part blob.bytes at width) + place_of target
      added =
          let Added = λ (hole : PointerHole). le (part bytes hole.at hole.size) ≡ le (part blob.bytes hole.at hole.size) + place_of hole.target in
          each_midst Added s.pointers_before (record { at = at; size = width; target = target }) (pointer_holes (at + width) rows)
          (each_front Added (s.pointers_before ++ pointer_holes at (Pointer width target offset ∷ rows)) s.pointers_after
          (subst (AllByRecursion Added) s.pointers filled.pointers))
  row_held start at (Sum covers) rows s =
      ap (option_map byte_sum) (bytes_in-holds view address bytes start covers holds (omega (arith, s.covered.0, filled.size))) ∙ ap Some summed
    where
      summed : byte_sum (part bytes start covers) ≡ 0
      summed =
          let Zero = λ (hole : SumHole). byte_sum (part bytes hole.start hole.length) ≡ 0 in
          each_midst Zero s.sums_before (record { at = at; start = start; length = covers }) (sum_holes start (at + 1) rows)
          (each_front Zero (s.sums_before ++ sum_holes start at (Sum covers ∷ rows)) s.sums_after (subst (AllByRecursion Zero) s.sums filled.sums))
  row_held start at row rows s = solid_held start at row rows s refl refl

  -- all rows
  pub rows_held : (start at : ℕ) (rows : List Row) → Stands blob start at rows → Held view place_of (address + start) (address + at) rows
  rows_held start at [] s = tt
  rows_held start at (row ∷ rows) s =
      let place : address + at + width_of row ≡ address + (at + width_of row) = omega arith in
      (row_held start at row rows s, rw place (rows_held start (at + width_of row) rows (rest_stand blob start at row rows s)))

-- so rows that were appended are held wherever their file is
pub held_where_appended : (old new : BlobState) (rows : List Row) → IsBlob old → AreRows rows → new ≡ with_rows old rows
    → WhereHeld new (λ view address place_of. LayoutHeld view place_of (address + length old.bytes) rows)
held_where_appended old new rows blob are is later view address place_of grown held =
    let at = length old.bytes in
    rows_held view address later place_of held.bytes held.held held.filled at at rows
    (still_stand new later at at rows grown (appended_stand old new rows blob are is))
