-- Rows that stand as they are written are shown by their bytes alone.
use Rattle.std.proofs.Common.{◌≡◌, ℕ, ◌+◌, List, [], ◌∷◌, ◌++◌, Some, arith, refl, ap, subst, ◌∙◌}
use Rattle.std.proofs.lemmas.List.{take_at, drop_at}
use Rattle.std.proofs.lemmas.Option.{slice_get-get_or}
use Rattle.std.specs.List.{AllByRecursion}
use Rattle.vt_bytes.specs.View.{View, Holds, bytes_in, view_of}
use Rattle.vt_bytes.proofs.Views.{bytes_in-all, bytes_in-split}
use Rattle.vt_layout.specs.declared.row.Row.{Row}
use Rattle.vt_layout.specs.declared.row.Row.TheVariants.{Pointer, Sum}
use Rattle.vt_layout.specs.Rows.{width_of, bytes_of, size, spelled, IsRow, IsPlain, linked_row, linked}
use Rattle.vt_layout.specs.Shown.{Shown, LayoutShown, RowHeld, Held}
use Rattle.vt_layout.proofs.Sizes.{length-bytes_of, length-spelled}
use Rattle.vt_layout.proofs.Shows.{shown_rows}

-- files stand nowhere
pub nowhere : List ℕ → ℕ
nowhere name = 0

held_row : (view : View) (place_of : List ℕ → ℕ) (start address : ℕ) (row : Row) → IsPlain row
    → bytes_in view address (width_of row) ≡ Some (bytes_of row) → RowHeld view place_of start address row
held_row view place_of start address (Pointer width target offset) plain shown = absurd plain
held_row view place_of start address (Sum covers) plain shown = absurd plain
held_row view place_of start address row plain shown = shown

linked_plain : (place_of : List ℕ → ℕ) (row : Row) → IsPlain row → linked_row place_of row ≡ row
linked_plain place_of (Pointer width target offset) plain = absurd plain
linked_plain place_of row plain = refl

pub linked_rows : (place_of : List ℕ → ℕ) (rows : List Row) → AllByRecursion IsPlain rows → linked place_of rows ≡ rows
linked_rows place_of [] plain = refl
linked_rows place_of (row ∷ rows) plain =
    let first : linked_row place_of row ≡ row = linked_plain place_of row plain.0 in
    let rest : linked place_of rows ≡ rows = linked_rows place_of rows plain.1 in
    cc

-- they are held where their bytes are
pub held_rows : (view : View) (place_of : List ℕ → ℕ) (start address : ℕ) (rows : List Row) → AllByRecursion IsRow rows → AllByRecursion IsPlain rows
    → bytes_in view address (size rows) ≡ Some (spelled rows) → Held view place_of start address rows
held_rows view place_of start address [] are plain shown = tt
held_rows view place_of start address (row ∷ rows) are plain shown =
    let parts = bytes_in-split view address (width_of row) (size rows) (bytes_of row ++ spelled rows) shown in
    let long = length-bytes_of row are.0 in
    let first = ap Some (take_at (bytes_of row) (spelled rows) (width_of row) long) in
    let rest = ap Some (drop_at (bytes_of row) (spelled rows) (width_of row) long) in (
      held_row view place_of start address row plain.0 (parts.first ∙ first),
      held_rows view place_of start (address + width_of row) rows are.1 plain.1 (parts.second ∙ rest),
    )

-- bytes alone are held from 0 on
pub holds_alone : (bytes : List ℕ) → Holds (view_of bytes) 0 bytes
holds_alone bytes i within =
    let place : 0 + i ≡ i = omega arith in
    ap (view_of bytes) place ∙ slice_get-get_or bytes i 0 within

pub spelled_shown : (rows : List Row) → AllByRecursion IsRow rows → AllByRecursion IsPlain rows → LayoutShown (view_of (spelled rows)) 0 rows
spelled_shown rows are plain =
    let all = bytes_in-all (view_of (spelled rows)) 0 (spelled rows) (holds_alone (spelled rows)) in
    let whole = subst (λ count. bytes_in (view_of (spelled rows)) 0 count ≡ Some (spelled rows)) (length-spelled rows are) all in
    let held = held_rows (view_of (spelled rows)) nowhere 0 0 rows are plain whole in
    subst (Shown (view_of (spelled rows)) 0 0) (linked_rows nowhere rows plain) (shown_rows (view_of (spelled rows)) nowhere 0 0 rows are held)
