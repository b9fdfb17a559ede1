-- The shape of the rows of each known kind holds no values, and any bytes can be such rows; so can they be those of its entries.
use Rattle.std.proofs.Common.{◌≡◌, ℕ, zero, suc, ◌-◌, ◌*◌, ◌/◌, List, [], ◌∷◌, ◌++◌, take, drop, Option, Some, None, refl, ap, sym, ◌∙◌, subst}
use Rattle.vt_bytes.specs.View.{View}
use Rattle.vt_layout.specs.declared.row.Row.{Row}
use Rattle.vt_layout.specs.declared.row.Row.TheVariants.{Number, Bytes, Reserved}
use Rattle.vt_layout.specs.Entries.{Types}
use Rattle.vt_layout.specs.BadEntries.{AreReadable}
use Rattle.acpi_records.specs.Header.{body_rows}
use Rattle.acpi_records.specs.Fadt.{fadt_fields, fadt_made}
use Rattle.acpi_records.specs.Hpet.{hpet_fields, hpet_made}
use Rattle.acpi_records.specs.Madt.{madt_front_fields, madt_front_made}
use Rattle.acpi_records.specs.Srat.{srat_front_fields, srat_front_made}
use Rattle.acpi_model.specs.declared.form.Form.{Form}
use Rattle.std.proofs.lemmas.List.{take-map}
use Rattle.vt_bytes.proofs.Each.{each_take}
use Rattle.vt_layout.specs.Rows.{shape_of}
use Rattle.vt_layout.specs.Reading.{IsReadable}
use Rattle.acpi_model.specs.FadtKind.{fadt_shape, fadt_rows_in}
use Rattle.acpi_model.specs.SlitKind.{count_at}
use Rattle.acpi_model.specs.McfgKind.{allocation_shape, allocations_shape}
use Rattle.acpi_decode.specs.declared.kind.KnownKind.{KnownKind}
use Rattle.acpi_decode.specs.declared.kind.KnownKind.TheVariants.{Fadt, Madt, Srat, Slit, Mcfg, Hpet}
use Rattle.acpi_decode.specs.KnownKinds.{kind_of}
use Rattle.acpi_decode.specs.Blank.{IsBlank, IsBlankOrNone, blank_shape, blank_one}
use Rattle.acpi_decode.specs.Readable.{madt_readable, srat_readable}

allocations_blank : (count : ℕ) → IsBlank (Reserved 8 ∷ allocations_shape count)
allocations_blank zero = blank_shape (Reserved 8 ∷ []) refl
allocations_blank (suc count) =
    let others = allocations_blank count in
    record {
      blank = ap (λ rows. Reserved 8 ∷ (allocation_shape ++ drop 1 rows)) others.blank;
      readable = (tt, (tt, (tt, (tt, (tt, (tt, others.readable.1))))));
    }

-- so is the front of such a shape
front_blank : (n : ℕ) (rows : List Row) → IsBlank rows → IsBlank (take n rows)
front_blank n rows is = record {
  blank = sym (take-map shape_of n rows) ∙ ap (take n) is.blank;
  readable = each_take IsReadable rows n is.readable;
}

shape_is_blank : (form : Form) (k : KnownKind) (view : View) (address total : ℕ) → IsBlankOrNone ((kind_of form k).shape view address total)
shape_is_blank form Fadt view address total =
    blank_one _ (Some (take (fadt_rows_in total) fadt_shape)) None
    (front_blank (fadt_rows_in total) fadt_shape (blank_shape (body_rows (fadt_fields (fadt_made []))) refl)) tt
shape_is_blank form Madt view address total = blank_shape (body_rows (madt_front_fields (madt_front_made []))) refl
shape_is_blank form Srat view address total = blank_shape (body_rows (srat_front_fields (srat_front_made []))) refl
shape_is_blank form Slit view address total =
    let count = count_at view address in
    blank_one _ (Some (Number 8 0 ∷ Bytes (count * count) [] ∷ [])) None (blank_shape (Number 8 0 ∷ Bytes (count * count) [] ∷ []) refl) tt
shape_is_blank form Mcfg view address total =
    blank_one _ (Some (Reserved 8 ∷ allocations_shape ((total - 44) / 16))) None (allocations_blank ((total - 44) / 16)) tt
shape_is_blank form Hpet view address total = blank_shape (body_rows (hpet_fields (hpet_made []))) refl

pub blank_rows : (form : Form) (k : KnownKind) (view : View) (address total : ℕ) (rows : List Row) → (kind_of form k).shape view address total ≡ Some rows
    → IsBlank rows
blank_rows form k view address total rows is = subst IsBlankOrNone is (shape_is_blank form k view address total)

abbrev AreReadableOrNone : Option Types → Type 0
AreReadableOrNone None = Unit {0}
AreReadableOrNone (Some types) = AreReadable types

types_are_readable : (form : Form) (k : KnownKind) → AreReadableOrNone (kind_of form k).types
types_are_readable form Fadt = tt
types_are_readable form Madt = madt_readable
types_are_readable form Srat = srat_readable
types_are_readable form Slit = tt
types_are_readable form Mcfg = tt
types_are_readable form Hpet = tt

pub readable_types : (form : Form) (k : KnownKind) (types : Types) → (kind_of form k).types ≡ Some types → AreReadable types
readable_types form k types is = subst AreReadableOrNone is (types_are_readable form k)
