-- The rows of fields that a reader takes values of.
use Rattle.std.proofs.Common.{◌≡◌, ℕ, ◌^◌, ◌<◌, true, List, [], ◌∷◌, nat_lt, arith, subst, sym}
use Rattle.std.specs.List.{list_all, AllByRecursion}
use Rattle.std.proofs.lemmas.Bool.{and_parts}
use Rattle.std.proofs.lemmas.Bool.Decides.{nat_tests}
use Rattle.vt_layout.specs.declared.row.Row.{Row}
use Rattle.vt_layout.specs.declared.row.Row.TheVariants.{Number, BigEndian, Bytes, Named, StringNumber, Ignored, Reserved, Pointer, Sum}
use Rattle.vt_layout.specs.Rows.{size}
use Rattle.vt_layout.specs.Strings.{numbers_from}
use Rattle.vt_layout.specs.Numbered.{numbered}
use Rattle.vt_layout.specs.Reading.{IsReadable}
use Rattle.vt_layout.specs.Fields.{Field, Plain, Text, row_of, field_rows, field_texts, numbered_rows}
use Rattle.vt_layout.specs.Records.{is_readable, are_readable}
use Rattle.vt_layout.proofs.NumberedRows.{size-numbered}

-- any bytes can be each of them
readable_row : (field : Field) → is_readable field ≡ true → IsReadable (row_of field)
readable_row (Text text) is = tt
readable_row (Plain (Number width value)) is = tt
readable_row (Plain (BigEndian width value)) is = tt
readable_row (Plain (Bytes width bytes)) is = tt
readable_row (Plain (Ignored width value)) is = tt
readable_row (Plain (Reserved width)) is = tt
readable_row (Plain (Named name)) is = absurd (cc is)
readable_row (Plain (StringNumber number)) is = absurd (cc is)
readable_row (Plain (Pointer width target offset)) is = absurd (cc is)
readable_row (Plain (Sum covers)) is = absurd (cc is)

readable_rows : (fields : List Field) → list_all is_readable fields ≡ true → AllByRecursion IsReadable (field_rows fields)
readable_rows [] are = tt
readable_rows (field ∷ fields) are =
    let parts = and_parts (is_readable field) (list_all is_readable fields) are in
    (readable_row field parts.0, readable_rows fields parts.1)

-- also with the numbers of their strings
numbered_readable : (numbers : List ℕ) (rows : List Row) → AllByRecursion IsReadable rows → AllByRecursion IsReadable (numbered numbers rows)
numbered_readable numbers [] are = tt
numbered_readable numbers (StringNumber number ∷ rows) are = (tt, numbered_readable _ rows are.1)
numbered_readable numbers (row ∷ rows) are = (are.0, numbered_readable numbers rows are.1)

-- the parts of the test of a record's fields
pub all_readable : (fields : List Field) → are_readable fields ≡ true → list_all is_readable fields ≡ true
all_readable fields are = (and_parts (list_all is_readable fields) (nat_lt (size (field_rows fields)) 0x10000) are).0

pub kinds_readable : (fields : List Field) → are_readable fields ≡ true → AllByRecursion IsReadable (numbered_rows fields)
kinds_readable fields are =
    numbered_readable (numbers_from 1 (field_texts fields)) (field_rows fields) (readable_rows fields (all_readable fields are))

-- they have few bytes
pub small_rows : (fields : List Field) → are_readable fields ≡ true → size (field_rows fields) < 0x10000
small_rows fields are =
    let few = (and_parts (list_all is_readable fields) (nat_lt (size (field_rows fields)) 0x10000) are).1 in
    grind (arith, nat_tests, few)

pub kinds_small : (fields : List Field) (rows : List Row) → rows ≡ numbered_rows fields → are_readable fields ≡ true → size rows < 2 ^ 32
kinds_small fields rows is are =
    subst (λ these. size these < 2 ^ 32) (sym is)
    (omega (arith, small_rows fields are, size-numbered (numbers_from 1 (field_texts fields)) (field_rows fields)))
