-- One RSDP of a form stands at an address.
use Rattle.std.proofs.Common.{◌≡◌, ℕ, Bool, true, false, List, refl, ap}
use Rattle.vt_bytes.specs.View.{View}
use Rattle.vt_layout.specs.declared.row.Row.{Row}
use Rattle.vt_layout.specs.declared.row.Row.TheVariants.{Number}
use Rattle.vt_layout.specs.Rows.{number, text, shape}
use Rattle.vt_layout.proofs.Same.{same_rows}
use Rattle.acpi_model.specs.declared.form.Form.{Form}
use Rattle.acpi_model.specs.Form.{address_size}
use Rattle.acpi_model.specs.Rsdp.{rsdp_rows_by, IsRsdpBy}

-- its rows, by whether it is an extended one
abbrev rows_of : Bool → List ℕ → ℕ → ℕ → List Row
rows_of extended oem_id revision root =
    let form : Form = record { extended = extended; least_fadt = 0 } in
    rsdp_rows_by form oem_id revision (Number (address_size form) root)

one_shape : (extended : Bool) (o p : List ℕ) (r s x y : ℕ) → shape (rows_of extended o r x) ≡ shape (rows_of extended p s y)
one_shape true o p r s x y = refl
one_shape false o p r s x y = refl

one_root : (extended : Bool) (o p : List ℕ) (r s x y : ℕ) → rows_of extended o r x ≡ rows_of extended p s y → x ≡ y
one_root true o p r s x y same = ap (number 6) same
one_root false o p r s x y same = ap (number 4) same

pub one_rsdp : (form : Form) (view : View) (address : ℕ) (o p : List ℕ) (x y : ℕ) → IsRsdpBy form view address o x → IsRsdpBy form view address p y
    → (o ≡ p) × (x ≡ y)
one_rsdp form view address o p x y is also =
    let same =
    same_rows view address address (rows_of form.extended o is.revision x) (rows_of form.extended p also.revision y) is.shown also.shown
    (one_shape form.extended o p is.revision also.revision x y) in
    (ap (text 2) same, one_root form.extended o p is.revision also.revision x y same)
