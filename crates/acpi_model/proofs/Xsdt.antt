-- One root of a form stands at an address, and an XSDT that is held as it was written stands there.
use Rattle.std.proofs.Common.{◌≡◌, ℕ, ◌+◌, ◌*◌, ◌≤◌, Bool, true, false, List, length, map, codes, arith, refl, ap, sym, ◌∙◌, subst}
use Rattle.std.specs.List.{AllByRecursion}
use Rattle.std.proofs.lemmas.List.{length-map}
use Rattle.vt_bytes.specs.View.{View}
use Rattle.vt_layout.specs.declared.row.Row.TheVariants.{Pointer}
use Rattle.vt_layout.specs.Rows.{size, IsRow}
use Rattle.vt_layout.specs.Shown.{LayoutShown, LayoutHeld}
use Rattle.vt_layout.proofs.NumberRows.{size-numbers, shape-numbers, same_numbers, linked-pointers}
use Rattle.acpi_records.specs.declared.header.Head.{Head}
use Rattle.acpi_records.specs.Header.{IsTable}
use Rattle.acpi_model.specs.declared.form.Form.{Form}
use Rattle.acpi_model.specs.Form.{address_size, root_signature}
use Rattle.acpi_model.specs.Xsdt.{most_entries, root_entries, given, xsdt_rows, IsRoot, IsXsdt}
use Rattle.acpi_model.proofs.OneTable.{one_table}
use Rattle.acpi_model.proofs.HeldTables.{shown_table}

table_of : (form : Form) (view : View) (address : ℕ) (h : Head) (s : List ℕ) (is : IsRoot form view address h s)
    → IsTable view address (root_signature form) h (36 + size (root_entries form is.entries)) (root_entries form is.entries)
table_of form view address h s is = record { long_enough = omega arith; shown = is.shown }

-- as many bytes of entries are as many entries
as_many : (extended : Bool) (n k : ℕ) → n * address_size (record { extended = extended; least_fadt = 0 })
    ≡ k * address_size (record { extended = extended; least_fadt = 0 }) → n ≡ k
as_many true n k same = omega (arith, same)
as_many false n k same = omega (arith, same)

pub one_root : (form : Form) (view : View) (address : ℕ) (h g : Head) (s t : List ℕ) → IsRoot form view address h s → IsRoot form view address g t
    → (h ≡ g) × (s ≡ t)
one_root form view address h g s t is also =
    let width : ℕ = address_size form in
    let same =
    one_table view address (root_signature form) (root_signature form) (36 + size (root_entries form is.entries)) (36 + size (root_entries form also.entries))
    h g (root_entries form is.entries) (root_entries form also.entries) (table_of form view address h s is) (table_of form view address g t also)
    (λ totals. shape-numbers width is.entries also.entries (as_many form.extended (length is.entries) (length also.entries)
    (omega (arith, totals, size-numbers width is.entries, size-numbers width also.entries)))) in
    (same.headers, is.given ∙ ap given (same_numbers width is.entries also.entries same.bodies) ∙ sym also.given)

pub held_xsdt : (view : View) (place_of : List ℕ → ℕ) (address : ℕ) (h : Head) (name offsets : List ℕ)
    → length offsets ≤ most_entries → AllByRecursion IsRow (xsdt_rows h (map (Pointer 8 name) offsets))
    → LayoutHeld view place_of address (xsdt_rows h (map (Pointer 8 name) offsets))
    → IsXsdt view address h (given (map (λ offset. offset + place_of name) offsets))
held_xsdt view place_of address h name offsets few are held = record {
  entries = map (λ offset. offset + place_of name) offsets;
  few = omega (arith, few, length-map offsets (λ offset. offset + place_of name));
  shown = subst (λ body. LayoutShown view address (xsdt_rows h body)) (linked-pointers place_of 8 name offsets)
      (shown_table view place_of address (codes "XSDT") h (map (Pointer 8 name) offsets) are held);
  given = refl;
}
