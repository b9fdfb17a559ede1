-- Rows behind a header, of which each may stand there.
use Rattle.std.proofs.Common.{◌≡◌, ℕ, zero, suc, true, List, [], ◌∷◌, drop, slice_set}
use Rattle.std.proofs.lemmas.Bool.{and_parts}
use Rattle.std.specs.List.{list_all, AllByRecursion}
use Rattle.vt_layout.specs.declared.row.Row.TheVariants.{Number, BigEndian, Bytes, Named, StringNumber, Ignored, Reserved, Pointer, Sum}
use Rattle.vt_layout.specs.Fields.{Field, Plain, Text, row_of, field_rows}
use Rattle.vt_layout.specs.Records.{is_readable}
use Rattle.acpi_records.specs.Header.{body_rows}
use Rattle.acpi_model.specs.Kinds.{IsBodyRow}

-- with another element in place of one
pub each_set : {X : Type 0} (P : X → Type 0) (xs : List X) (k : ℕ) (x : X) → AllByRecursion P xs → P x → AllByRecursion P (slice_set xs k x)
each_set P [] k x each p = tt
each_set P (y ∷ xs) zero x each p = (p, each.1)
each_set P (y ∷ xs) (suc k) x each p = (each.0, each_set P xs k x each.1 p)

-- the elements behind the first so many
each_drop : {X : Type 0} (P : X → Type 0) (xs : List X) (k : ℕ) → AllByRecursion P xs → AllByRecursion P (drop k xs)
each_drop P [] zero each = tt
each_drop P [] (suc k) each = tt
each_drop P (x ∷ xs) zero each = each
each_drop P (x ∷ xs) (suc k) each = each_drop P xs k each.1

-- what can be read is neither a checksum nor a pointer
readable_field : (field : Field) → is_readable field ≡ true → IsBodyRow (row_of field)
readable_field (Plain (Number width value)) is = tt
readable_field (Plain (BigEndian width value)) is = tt
readable_field (Plain (Bytes width bytes)) is = tt
readable_field (Plain (Named name)) is = tt
readable_field (Plain (StringNumber number)) is = tt
readable_field (Plain (Ignored width value)) is = tt
readable_field (Plain (Reserved width)) is = tt
readable_field (Plain (Pointer width target offset)) is = absurd (cc)
readable_field (Plain (Sum covers)) is = absurd (cc)
readable_field (Text text) is = tt

readable_rows : (fields : List Field) → list_all is_readable fields ≡ true → AllByRecursion IsBodyRow (field_rows fields)
readable_rows [] are = tt
readable_rows (field ∷ fields) are =
    let both = and_parts (is_readable field) (list_all is_readable fields) are in
    (readable_field field both.0, readable_rows fields both.1)

-- so are the rows of a record behind its header
pub readable_body : (fields : List Field) → list_all is_readable fields ≡ true → AllByRecursion IsBodyRow (body_rows fields)
readable_body fields are = each_drop IsBodyRow (field_rows fields) 9 (readable_rows fields are)
