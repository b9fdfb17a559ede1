-- The FACS that a view holds as it was written stands there, and one stands at an address.
use Rattle.std.proofs.Common.{◌≡◌, ℕ, ◌+◌, ◌-◌, ◌<◌, List, [], ◌∷◌, Some, IsSome, arith, rules, refl, ap, sym, subst, ⊎_elim}
use Rattle.std.specs.List.{AllByRecursion}
use Rattle.std.proofs.lemmas.Bool.{cases_lt}
use Rattle.vt_bytes.specs.View.{View, bytes_in}
use Rattle.vt_bytes.proofs.Views.{ram-shown}
use Rattle.vt_layout.specs.declared.row.Row.{Row}
use Rattle.vt_layout.specs.declared.row.Row.TheVariants.{Pointer, Sum}
use Rattle.vt_layout.specs.Rows.{IsRow, IsPlain, size, width_of, bytes_of}
use Rattle.vt_layout.specs.Shown.{RowHeld, Held, LayoutHeld}
use Rattle.vt_layout.specs.Values.{values_of}
use Rattle.vt_layout.proofs.Same.{same_rows}
use Rattle.vt_layout.proofs.Shows.{shown_rows}
use Rattle.acpi_records.specs.declared.facs.Facs.{Facs}
use Rattle.acpi_records.specs.Facs.{IsFacs, facs_rows, facs_made}

-- a row that is held as it is written has its bytes there
row_bytes : (view : View) (place_of : List ℕ → ℕ) (start address : ℕ) (row : Row) → IsPlain row → RowHeld view place_of start address row
    → bytes_in view address (width_of row) ≡ Some (bytes_of row)
row_bytes view place_of start address (Pointer width target offset) plain held = absurd plain
row_bytes view place_of start address (Sum covers) plain held = absurd plain
row_bytes view place_of start address row plain held = held

-- so are all bytes of rows that are held
held_there : (view : View) (place_of : List ℕ → ℕ) (start address : ℕ) (rows : List Row) → AllByRecursion IsPlain rows
    → Held view place_of start address rows → (offset : ℕ) → offset < size rows → IsSome (view (address + offset))
held_there view place_of start address [] plain held offset below = absurd (omega (arith, below))
held_there view place_of start address (row ∷ rows) plain held offset below =
    ⊎_elim
    (λ here.
    let first = ram-shown view address (width_of row) (bytes_of row) offset (row_bytes view place_of start address row plain.0 held.0) here in
    subst IsSome (sym first) refl)
    (λ behind.
    let place : address + width_of row + (offset - width_of row) ≡ address + offset = omega (arith, behind) in
    subst (λ a. IsSome (view a)) place
    (held_there view place_of start (address + width_of row) rows plain.1 held.1 (offset - width_of row) (omega (arith, below, behind))))
    (cases_lt offset (width_of row))

pub one_facs : (view : View) (address : ℕ) (f g : Facs) → IsFacs view address f → IsFacs view address g → f ≡ g
one_facs view address f g is also =
    ap (λ rows. facs_made (values_of rows [])) (same_rows view address address (facs_rows f) (facs_rows g) is.shown also.shown refl)

pub held_facs : (view : View) (place_of : List ℕ → ℕ) (address : ℕ) (f : Facs) → AllByRecursion IsRow (facs_rows f)
    → LayoutHeld view place_of address (facs_rows f) → IsFacs view address f
held_facs view place_of address f fit held = record {
  there = λ offset below. held_there view place_of address address (facs_rows f) (search rules) held offset (omega (arith, below));
  shown = shown_rows view place_of address address (facs_rows f) fit held;
}
