-- What is read of bytes is what stands at their front, and what stands there is read.
use Rattle.std.proofs.Common.{◌≡◌, ℕ, ◌≤◌, ◌<◌, Bool, true, false, cond, List, [], ◌∷◌, length, take, drop, Option, Some, None, Result, Ok, Err, nat_lt}
use Rattle.std.proofs.Common.{refl, ap, sym, subst, ◌∙◌, arith}
use Rattle.std.specs.List.{list_all}
use Rattle.std.proofs.lemmas.Bool.{and_parts}
use Rattle.std.proofs.lemmas.Bool.Decides.{nat_tests}
use Rattle.vt_bytes.specs.Numbers.{le, be}
use Rattle.vt_bytes.specs.View.{View, view_of}
use Rattle.vt_layout.specs.declared.row.Row.{Row}
use Rattle.vt_layout.specs.declared.row.Row.TheVariants.{Number, BigEndian, Bytes, StringNumber}
use Rattle.vt_layout.specs.declared.value.Value.{Value}
use Rattle.vt_layout.specs.declared.value.Value.TheVariants as values
use Rattle.vt_layout.specs.declared.record_reader.RecordFault.{RecordFault}
use Rattle.vt_layout.specs.declared.record_reader.RecordFault.TheVariants.{TooShort}
use Rattle.vt_layout.specs.Rows.{width_of, size, string_numbers}
use Rattle.vt_layout.specs.Strings.{string_of, AreNamed, numbers_from}
use Rattle.vt_layout.specs.Numbered.{numbered}
use Rattle.vt_layout.specs.Reading.{row_in, rows_in}
use Rattle.vt_layout.specs.Values.{value_of, values_of}
use Rattle.vt_layout.specs.Fields.{Field, Plain, Text, field_rows, field_texts}
use Rattle.vt_layout.specs.Records.{is_readable, are_readable, kinds_of, IsLaid, text_said, value_said, joined, values_said, made_of, record_in}
use Rattle.vt_layout.proofs.AsRows.{bytes_shown, bytes_shaped}
use Rattle.vt_layout.proofs.Same.{same_rows}
use Rattle.vt_layout.proofs.NumberedRows.{numbered-none}
use Rattle.vt_layout.proofs.ReadableFields.{all_readable, kinds_readable}

-- a value in front of others, all of which are there
record IsJoined (one : Result Value RecordFault) (more : Result (List Value) RecordFault) (all : List Value) : Type 0 where
  value : Value
  others : List Value
  one_is : one ≡ Ok value
  more_is : more ≡ Ok others
  all_is : all ≡ value ∷ others

parts_joined : (one : Result Value RecordFault) (more : Result (List Value) RecordFault) (all : List Value) → joined one more ≡ Ok all
    → IsJoined one more all
parts_joined (Err fault) more all is = absurd (cc is)
parts_joined (Ok value) (Err fault) all is = absurd (cc is)
parts_joined (Ok value) (Ok others) all is = record { value = value; others = others; one_is = refl; more_is = refl; all_is = cc is }

-- Values are those of rows, whose numbers name these texts.
record AreRead (strings : List (List ℕ)) (rows : List Row) (all : List Value) : Type 0 where
  texts : List (List ℕ)
  named : AreNamed strings (string_numbers rows) texts
  says : all ≡ values_of rows texts

-- one more in front
text_read : (strings : List (List ℕ)) (number : ℕ) (found : Option (List ℕ)) (value : Value) (rows : List Row) (others : List Value)
    → string_of strings number ≡ found → text_said number found ≡ Ok value → AreRead strings rows others
    → AreRead strings (StringNumber number ∷ rows) (value ∷ others)
text_read strings number None value rows others found is read = absurd (cc is)
text_read strings number (Some text) value rows others found is read =
    record { texts = text ∷ read.texts; named = (found, read.named); says = cc (is, read.says) }

row_read : (strings : List (List ℕ)) (row : Row) (bytes : List ℕ) (value : Value) (rows : List Row) (others : List Value)
    → value_said row bytes strings ≡ Ok value → AreRead strings rows others → AreRead strings (row_in row bytes ∷ rows) (value ∷ others)
row_read strings (StringNumber number) bytes value rows others is read =
    text_read strings (le bytes) (string_of strings (le bytes)) value rows others refl is read
row_read strings (Number width n) bytes value rows others is read = record { texts = read.texts; named = read.named; says = cc (is, read.says) }
row_read strings (BigEndian width n) bytes value rows others is read = record { texts = read.texts; named = read.named; says = cc (is, read.says) }
row_read strings (Bytes width text) bytes value rows others is read = record { texts = read.texts; named = read.named; says = cc (is, read.says) }
row_read strings row bytes value rows others is read = record { texts = read.texts; named = read.named; says = cc (is, read.says) }

rows_read : (strings : List (List ℕ)) (kinds : List Row) (bytes : List ℕ) (all : List Value) → values_said kinds bytes strings ≡ Ok all
    → AreRead strings (rows_in kinds bytes) all
rows_read strings [] bytes all is = record { texts = []; named = tt; says = cc is }
rows_read strings (row ∷ kinds) bytes all is =
    let front = take (width_of row) bytes in
    let left = drop (width_of row) bytes in
    let parts = parts_joined (value_said row front strings) (values_said kinds left strings) all is in
    subst (AreRead strings (rows_in (row ∷ kinds) bytes)) (sym parts.all_is)
    (row_read strings row front parts.value (rows_in kinds left) parts.others parts.one_is (rows_read strings kinds left parts.others parts.more_is))

-- and where the texts are named, the values are read
one_named : (strings : List (List ℕ)) (row : Row) (bytes : List ℕ) (rows : List Row) (texts : List (List ℕ)) (more : Result (List Value) RecordFault)
    → AreNamed strings (string_numbers (row_in row bytes ∷ rows)) texts
    → ((others : List (List ℕ)) → AreNamed strings (string_numbers rows) others → more ≡ Ok (values_of rows others))
    → joined (value_said row bytes strings) more ≡ Ok (values_of (row_in row bytes ∷ rows) texts)
one_named strings (StringNumber number) bytes rows [] more named read = absurd named
one_named strings (StringNumber number) bytes rows (text ∷ texts) more named read =
    let one : value_said (StringNumber number) bytes strings ≡ Ok (values.Text text) = ap (text_said (le bytes)) named.0 in
    let others = read texts named.1 in
    cc (one, others)
one_named strings (Number width n) bytes rows texts more named read = ap (joined (Ok (value_of (Number width (le bytes))))) (read texts named)
one_named strings (BigEndian width n) bytes rows texts more named read = ap (joined (Ok (value_of (BigEndian width (be bytes))))) (read texts named)
one_named strings (Bytes width text) bytes rows texts more named read = ap (joined (Ok (value_of (Bytes width bytes)))) (read texts named)
one_named strings row bytes rows texts more named read = ap (joined (Ok values.Nothing)) (read texts named)

named_read : (strings : List (List ℕ)) (kinds : List Row) (bytes : List ℕ) (texts : List (List ℕ))
    → AreNamed strings (string_numbers (rows_in kinds bytes)) texts → values_said kinds bytes strings ≡ Ok (values_of (rows_in kinds bytes) texts)
named_read strings [] bytes texts named = refl
named_read strings (row ∷ kinds) bytes texts named =
    let left = drop (width_of row) bytes in
    one_named strings row (take (width_of row) bytes) (rows_in kinds left) texts (values_said kinds left strings) named
    (λ others are. named_read strings kinds left others are)

-- bytes that end before the rows, and bytes that don't
pub short_area : {T : Type 0} (fields : T → List Field) (made : List Value → T) (area : List ℕ) (strings : List (List ℕ))
    → length area < size (kinds_of fields made) → record_in fields made area strings ≡ Err TooShort
short_area fields made area strings short =
    let test : nat_lt (length area) (size (kinds_of fields made)) ≡ true = grind (arith, nat_tests, short) in
    ap (λ is. cond is (Err TooShort) (made_of made (values_said (kinds_of fields made) area strings))) test

pub whole_area : {T : Type 0} (fields : T → List Field) (made : List Value → T) (area : List ℕ) (strings : List (List ℕ))
    → size (kinds_of fields made) ≤ length area → record_in fields made area strings ≡ made_of made (values_said (kinds_of fields made) area strings)
whole_area fields made area strings within =
    let test : nat_lt (length area) (size (kinds_of fields made)) ≡ false = grind (arith, nat_tests, within) in
    ap (λ is. cond is (Err TooShort) (made_of made (values_said (kinds_of fields made) area strings))) test

-- what is made of values that are there, where an area is long enough
record IsMade {T : Type 0} (made : List Value → T) (short : Bool) (said : Result (List Value) RecordFault) (t : T) : Type 0 where
  all : List Value
  long : short ≡ false
  said_is : said ≡ Ok all
  says : t ≡ made all

parts_made : {T : Type 0} (made : List Value → T) (short : Bool) (said : Result (List Value) RecordFault) (t : T)
    → cond short (Err TooShort) (made_of made said) ≡ Ok t → IsMade made short said t
parts_made made true said t is = absurd (cc is)
parts_made made false (Err fault) t is = absurd (cc is)
parts_made made false (Ok all) t is = record { all = all; long = refl; said_is = refl; says = cc is }

-- what is read stands there
pub read_stands : {T : Type 0} (fields : T → List Field) (made : List Value → T) (area : List ℕ) (strings : List (List ℕ)) (t : T)
    → are_readable (fields (made [])) ≡ true → record_in fields made area strings ≡ Ok t → IsLaid fields made (view_of area) 0 0 strings t
read_stands fields made area strings t readable is =
    let kinds = kinds_of fields made in
    let parts = parts_made made (nat_lt (length area) (size kinds)) (values_said kinds area strings) t is in
    let within : size kinds ≤ length area = grind (arith, nat_tests, parts.long) in
    let read = rows_read strings kinds area parts.all parts.said_is in
    record {
      rows = rows_in kinds area;
      texts = read.texts;
      shaped = bytes_shaped kinds area;
      shown = bytes_shown kinds area (kinds_readable (fields (made [])) readable) within;
      named = read.named;
      says = parts.says ∙ ap made read.says;
    }

-- what stands there is read
pub standing_read : {T : Type 0} (fields : T → List Field) (made : List Value → T) (area : List ℕ) (strings : List (List ℕ)) (t : T)
    → are_readable (fields (made [])) ≡ true → size (kinds_of fields made) ≤ length area
    → IsLaid fields made (view_of area) 0 0 strings t → record_in fields made area strings ≡ Ok t
standing_read fields made area strings t readable within is =
    let kinds = kinds_of fields made in
    let rows : is.rows ≡ rows_in kinds area =
    same_rows (view_of area) 0 0 is.rows (rows_in kinds area) is.shown (bytes_shown kinds area (kinds_readable (fields (made [])) readable) within)
    (is.shaped ∙ sym (bytes_shaped kinds area)) in
    let named = subst (λ (these : List Row). AreNamed strings (string_numbers these) is.texts) rows is.named in
    let says = is.says ∙ ap (λ (these : List Row). made (values_of these is.texts)) rows in
    whole_area fields made area strings within ∙ ap (made_of made) (named_read strings kinds area is.texts named) ∙ ap Ok (sym says)

-- fields without texts have no number of a string in their rows
no_number : (row : Row) (bytes : List ℕ) (rows : List Row) → is_readable (Plain row) ≡ true
    → string_numbers (row_in row bytes ∷ rows) ≡ string_numbers rows
no_number (StringNumber number) bytes rows is = absurd (cc is)
no_number row bytes rows is = refl

no_numbers : (fields : List Field) (bytes : List ℕ) → list_all is_readable fields ≡ true → field_texts fields ≡ []
    → string_numbers (rows_in (field_rows fields) bytes) ≡ []
no_numbers [] bytes are none = refl
no_numbers (Text text ∷ fields) bytes are none = absurd (cc none)
no_numbers (Plain row ∷ fields) bytes are none =
    let parts = and_parts (is_readable (Plain row)) (list_all is_readable fields) are in
    let left = drop (width_of row) bytes in
    no_number row (take (width_of row) bytes) (rows_in (field_rows fields) left) parts.0 ∙ no_numbers fields left parts.1 none

no_texts : (strings : List (List ℕ)) (texts : List (List ℕ)) → AreNamed strings [] texts → texts ≡ []
no_texts strings [] named = refl
no_texts strings (text ∷ texts) named = absurd named

-- so what is read is made of the values of these rows alone
pub read_without_texts : {T : Type 0} (fields : T → List Field) (made : List Value → T) (area : List ℕ) (strings : List (List ℕ)) (t : T)
    → are_readable (fields (made [])) ≡ true → field_texts (fields (made [])) ≡ [] → record_in fields made area strings ≡ Ok t
    → t ≡ made (values_of (rows_in (field_rows (fields (made []))) area) [])
read_without_texts fields made area strings t readable none is =
    let own : List Field = fields (made []) in
    let kinds = kinds_of fields made in
    let parts = parts_made made (nat_lt (length area) (size kinds)) (values_said kinds area strings) t is in
    let read = rows_read strings kinds area parts.all parts.said_is in
    let plain : kinds ≡ field_rows own = ap (λ texts. numbered (numbers_from 1 texts) (field_rows own)) none ∙ numbered-none (field_rows own) in
    let numbers : string_numbers (rows_in kinds area) ≡ [] =
    ap (λ (rows : List Row). string_numbers (rows_in rows area)) plain ∙ no_numbers own area (all_readable own readable) none in
    let texts : read.texts ≡ [] = no_texts strings read.texts (subst (λ these. AreNamed strings these read.texts) numbers read.named) in
    parts.says ∙ ap made read.says ∙ ap (λ these. made (values_of (rows_in kinds area) these)) texts
    ∙ ap (λ (rows : List Row). made (values_of (rows_in rows area) [])) plain

-- and a record without texts is always read
pub plain_read : {T : Type 0} (fields : T → List Field) (made : List Value → T) (area : List ℕ) (strings : List (List ℕ))
    → are_readable (fields (made [])) ≡ true → field_texts (fields (made [])) ≡ [] → size (field_rows (fields (made []))) ≤ length area
    → record_in fields made area strings ≡ Ok (made (values_of (rows_in (field_rows (fields (made []))) area) []))
plain_read fields made area strings readable none within =
    let own : List Field = fields (made []) in
    let kinds = kinds_of fields made in
    let plain : kinds ≡ field_rows own = ap (λ texts. numbered (numbers_from 1 texts) (field_rows own)) none ∙ numbered-none (field_rows own) in
    let numbers : string_numbers (rows_in kinds area) ≡ [] =
    ap (λ (rows : List Row). string_numbers (rows_in rows area)) plain ∙ no_numbers own area (all_readable own readable) none in
    let named : AreNamed strings (string_numbers (rows_in kinds area)) [] = subst (λ these. AreNamed strings these []) (sym numbers) tt in
    whole_area fields made area strings (subst (λ (rows : List Row). size rows ≤ length area) (sym plain) within)
    ∙ ap (made_of made) (named_read strings kinds area [] named) ∙ ap (λ (rows : List Row). Ok (made (values_of (rows_in rows area) []))) plain

-- numbers name one list of texts
same_named : (strings : List (List ℕ)) (numbers : List ℕ) (texts others : List (List ℕ)) → AreNamed strings numbers texts
    → AreNamed strings numbers others → texts ≡ others
same_named strings [] [] [] is also = refl
same_named strings [] [] (u ∷ us) is also = absurd also
same_named strings [] (t ∷ ts) us is also = absurd is
same_named strings (number ∷ numbers) [] us is also = absurd is
same_named strings (number ∷ numbers) (t ∷ ts) [] is also = absurd also
same_named strings (number ∷ numbers) (t ∷ ts) (u ∷ us) is also =
    let one : t ≡ u = cc (is.0, also.0) in
    let more : ts ≡ us = same_named strings numbers ts us is.1 also.1 in
    cc

-- one view shows one record at a place
pub same_laid : {T : Type 0} (fields : T → List Field) (made : List Value → T) (view : View) (start address : ℕ) (strings : List (List ℕ)) (t u : T)
    → IsLaid fields made view start address strings t → IsLaid fields made view start address strings u → t ≡ u
same_laid fields made view start address strings t u is also =
    let rows : is.rows ≡ also.rows = same_rows view start address is.rows also.rows is.shown also.shown (is.shaped ∙ sym also.shaped) in
    let named = subst (λ (these : List Row). AreNamed strings (string_numbers these) is.texts) rows is.named in
    let texts : is.texts ≡ also.texts = same_named strings (string_numbers also.rows) is.texts also.texts named also.named in
    is.says ∙ ap (λ (these : List Row). made (values_of these is.texts)) rows ∙ ap (λ these. made (values_of also.rows these)) texts ∙ sym also.says
