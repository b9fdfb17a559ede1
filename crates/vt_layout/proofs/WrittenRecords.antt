-- A record, as it is written, is read as the record.
use Rattle.std.proofs.Common.{◌≡◌, ℕ, ◌+◌, ◌≤◌, true, List, [], ◌∷◌, ◌++◌, length, drop, Ok, Some, refl, ap, sym, subst, ◌∙◌, arith, length-append}
use Rattle.std.specs.List.{list_all, AllByRecursion}
use Rattle.std.proofs.lemmas.Bool.{and_parts}
use Rattle.std.proofs.lemmas.List.{take_at}
use Rattle.vt_bytes.specs.View.{View, bytes_in, view_of}
use Rattle.vt_layout.specs.declared.row.Row.{Row}
use Rattle.vt_layout.specs.declared.row.Row.TheVariants.{Number, BigEndian, Bytes, Named, StringNumber, Ignored, Reserved, Pointer, Sum}
use Rattle.vt_layout.specs.declared.value.Value.{Value}
use Rattle.vt_layout.specs.declared.value.Value.TheVariants as values
use Rattle.vt_layout.specs.Rows.{IsRow, IsPlain, size, shape, spelled, string_numbers}
use Rattle.vt_layout.specs.Shown.{Shown, Held}
use Rattle.vt_layout.specs.Strings.{AreNamed, numbers_from, strings_of}
use Rattle.vt_layout.specs.Numbered.{numbered}
use Rattle.vt_layout.specs.Values.{value_of, values_of}
use Rattle.vt_layout.specs.Fields.{Field, Plain, Text, row_of, texts_of, field_value, field_rows, field_texts, field_values, numbered_rows, field_bytes}
use Rattle.vt_layout.specs.Fields.{field_strings}
use Rattle.vt_layout.specs.Records.{is_readable, are_readable, IsLawful, kinds_of, IsLaid, record_in}
use Rattle.vt_layout.proofs.Sizes.{length-spelled}
use Rattle.vt_layout.proofs.Shows.{shown_rows}
use Rattle.vt_layout.proofs.Spelled.{nowhere, held_rows, linked_rows}
use Rattle.vt_layout.proofs.InBytes.{part_is_shown}
use Rattle.vt_layout.proofs.NumberedRows.{string_numbers-numbered, shape-numbered, plain_numbered, size-shape}
use Rattle.vt_layout.proofs.NamedTexts.{texts_named, length-numbers_from}
use Rattle.vt_layout.proofs.ReadableFields.{all_readable}
use Rattle.vt_layout.proofs.ReadRecords.{standing_read}

-- What holds of the row of a field, in front of others.
record IsOneField (field : Field) : Type 0 where
  plain : IsPlain (row_of field)
  counted : (rows : List Row) (texts : List (List ℕ)) → length (string_numbers rows) ≡ length texts
      → length (string_numbers (row_of field ∷ rows)) ≡ length (texts_of field ++ texts)
  valued : (numbers : List ℕ) (rows : List Row) (texts : List (List ℕ)) (more : List Value)
      → ((others : List ℕ) → values_of (numbered others rows) texts ≡ more)
      → values_of (numbered numbers (row_of field ∷ rows)) (texts_of field ++ texts) ≡ field_value field ∷ more

one_field : (field : Field) → is_readable field ≡ true → IsOneField field
one_field (Text text) is = record {
  plain = tt;
  counted = λ rows texts same. omega (arith, same);
  valued = λ numbers rows texts more others. ap (λ all. values.Text text ∷ all) (others (drop 1 numbers));
}
one_field (Plain (Number width n)) is = record {
  plain = tt;
  counted = λ rows texts same. same;
  valued = λ numbers rows texts more others. ap (λ all. value_of (Number width n) ∷ all) (others numbers);
}
one_field (Plain (BigEndian width n)) is = record {
  plain = tt;
  counted = λ rows texts same. same;
  valued = λ numbers rows texts more others. ap (λ all. value_of (BigEndian width n) ∷ all) (others numbers);
}
one_field (Plain (Bytes width bytes)) is = record {
  plain = tt;
  counted = λ rows texts same. same;
  valued = λ numbers rows texts more others. ap (λ all. value_of (Bytes width bytes) ∷ all) (others numbers);
}
one_field (Plain (Ignored width n)) is = record {
  plain = tt;
  counted = λ rows texts same. same;
  valued = λ numbers rows texts more others. ap (λ all. values.Nothing ∷ all) (others numbers);
}
one_field (Plain (Reserved width)) is = record {
  plain = tt;
  counted = λ rows texts same. same;
  valued = λ numbers rows texts more others. ap (λ all. values.Nothing ∷ all) (others numbers);
}
one_field (Plain (Named name)) is = absurd (cc is)
one_field (Plain (StringNumber number)) is = absurd (cc is)
one_field (Plain (Pointer width target offset)) is = absurd (cc is)
one_field (Plain (Sum covers)) is = absurd (cc is)

-- and of all rows of fields
pub record AreFields (fields : List Field) : Type 0 where
  pub plain : AllByRecursion IsPlain (field_rows fields)
  pub counted : length (string_numbers (field_rows fields)) ≡ length (field_texts fields)
  pub valued : (numbers : List ℕ) → values_of (numbered numbers (field_rows fields)) (field_texts fields) ≡ field_values fields

pub all_fields : (fields : List Field) → list_all is_readable fields ≡ true → AreFields fields
all_fields [] are = record { plain = tt; counted = refl; valued = λ numbers. refl }
all_fields (field ∷ fields) are =
    let parts = and_parts (is_readable field) (list_all is_readable fields) are in
    let one = one_field field parts.0 in
    let others = all_fields fields parts.1 in
    record {
      plain = (one.plain, others.plain);
      counted = one.counted (field_rows fields) (field_texts fields) others.counted;
      valued = λ numbers. one.valued numbers (field_rows fields) (field_texts fields) (field_values fields) others.valued;
    }

-- and what is made of their values is the record, whatever the numbers in the rows
pub values_back : {T : Type 0} (count : ℕ) (fields : T → List Field) (made : List Value → T) (t u : T) → IsLawful count fields made t u
    → (numbers : List ℕ) → made (values_of (numbered numbers (field_rows (fields t))) (field_texts (fields t))) ≡ t
values_back count fields made t u lawful numbers =
    ap made ((all_fields (fields t) (all_readable (fields t) lawful.readable)).valued numbers) ∙ lawful.back

-- they have the shape of their type's
kinds_shaped : {T : Type 0} (count : ℕ) (fields : T → List Field) (made : List Value → T) (t : T) → IsLawful count fields made t (made [])
    → shape (numbered_rows (fields t)) ≡ shape (kinds_of fields made)
kinds_shaped count fields made t lawful =
    shape-numbered (numbers_from 1 (field_texts (fields t))) (field_rows (fields t)) ∙ lawful.shaped
    ∙ sym (shape-numbered (numbers_from 1 (field_texts (fields (made [])))) (field_rows (fields (made []))))

-- rows that are shown, and the strings of their texts, say the record
shown_laid : {T : Type 0} (count : ℕ) (fields : T → List Field) (made : List Value → T) (t : T) → IsLawful count fields made t (made [])
    → (view : View) (start address : ℕ) → Shown view start address (numbered_rows (fields t))
    → IsLaid fields made view start address (field_strings (fields t)) t
shown_laid count fields made t lawful view start address shown =
    let rows = field_rows (fields t) in
    let texts = field_texts (fields t) in
    let numbers = numbers_from 1 texts in
    let are = all_fields (fields t) (all_readable (fields t) lawful.readable) in
    let stand : string_numbers (numbered numbers rows) ≡ numbers =
    string_numbers-numbered numbers rows (are.counted ∙ sym (length-numbers_from 1 texts)) in
    record {
      rows = numbered numbers rows;
      texts = texts;
      shaped = kinds_shaped count fields made t lawful;
      shown = shown;
      named = subst (λ these. AreNamed (strings_of texts) these texts) (sym stand) (texts_named texts);
      says = sym (values_back count fields made t (made []) lawful numbers);
    }

plain_rows : {T : Type 0} (count : ℕ) (fields : T → List Field) (made : List Value → T) (t : T) → IsLawful count fields made t (made [])
    → AllByRecursion IsPlain (numbered_rows (fields t))
plain_rows count fields made t lawful =
    plain_numbered (numbers_from 1 (field_texts (fields t))) (field_rows (fields t))
    (all_fields (fields t) (all_readable (fields t) lawful.readable)).plain

-- wherever a view holds its rows
pub held_laid : {T : Type 0} (count : ℕ) (fields : T → List Field) (made : List Value → T) (t : T) → IsLawful count fields made t (made [])
    → (view : View) (place_of : List ℕ → ℕ) (start address : ℕ) → AllByRecursion IsRow (numbered_rows (fields t))
    → Held view place_of start address (numbered_rows (fields t)) → IsLaid fields made view start address (field_strings (fields t)) t
held_laid count fields made t lawful view place_of start address fit held =
    shown_laid count fields made t lawful view start address
    (subst (Shown view start address) (linked_rows place_of (numbered_rows (fields t)) (plain_rows count fields made t lawful))
    (shown_rows view place_of start address (numbered_rows (fields t)) fit held))

-- its bytes, in front of others, are read as it
pub written_read : {T : Type 0} (count : ℕ) (fields : T → List Field) (made : List Value → T) (t : T) → IsLawful count fields made t (made [])
    → are_readable (fields (made [])) ≡ true → (more : List ℕ) → AllByRecursion IsRow (numbered_rows (fields t))
    → record_in fields made (field_bytes (fields t) ++ more) (field_strings (fields t)) ≡ Ok t
written_read count fields made t lawful readable more fit =
    let rows = numbered_rows (fields t) in
    let area = spelled rows ++ more in
    let long = length-spelled rows fit in
    let room : 0 + size rows ≤ length area = omega (arith, long, length-append (spelled rows) more) in
    let seen : bytes_in (view_of area) 0 (size rows) ≡ Some (spelled rows) =
    part_is_shown area 0 (size rows) room ∙ ap Some (take_at (spelled rows) more (size rows) long) in
    let held = held_rows (view_of area) nowhere 0 0 rows fit (plain_rows count fields made t lawful) seen in
    let laid = held_laid count fields made t lawful (view_of area) nowhere 0 0 fit held in
    let sizes : size rows ≡ size (kinds_of fields made) =
    sym (size-shape rows) ∙ ap size (kinds_shaped count fields made t lawful) ∙ size-shape (kinds_of fields made) in
    standing_read fields made area (field_strings (fields t)) t readable (omega (arith, room, sizes)) laid
