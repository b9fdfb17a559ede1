-- Fields that are added to what is gathered: their rows get the numbers of their texts.
use Rattle.std.proofs.Common.{◌≡◌, ℕ, zero, suc, ◌+◌, ◌-◌, ◌<◌, ◌≤◌, true, not, List, [], ◌∷◌, ◌++◌, length, ◌==◌, refl, ap, sym, arith}
use Rattle.std.proofs.Common.{◌∙◌, append_assoc, length-append}
use Rattle.std.specs.List.{list_all}
use Rattle.std.proofs.lemmas.Bool.{cond-false, and_parts}
use Rattle.std.proofs.lemmas.List.{append-nil}
use Rattle.std.proofs.lemmas.List.Elements.{filter-append}
use Rattle.vt_layout.specs.declared.row.Row.{Row}
use Rattle.vt_layout.specs.declared.record_size.RecordSize.{RecordSize}
use Rattle.vt_layout.specs.declared.row.Row.TheVariants.{StringNumber}
use Rattle.vt_layout.specs.Strings.{numbers_from, strings_of}
use Rattle.vt_layout.specs.Numbered.{numbered}
use Rattle.vt_layout.specs.Fields.{Field, Plain, Text, Gathered, texts_of, field_rows, field_texts, number_behind, row_behind, with_size, added, all_added}
use Rattle.vt_layout.specs.Records.{is_readable}
use Rattle.vt_layout.proofs.NamedTexts.{not_empty, numbers_from-next, strings_of-next}

-- the number of a text that isn't empty is one more than there are strings
number_behind-text : (texts : List (List ℕ)) (byte : ℕ) (text : List ℕ) → number_behind texts (byte ∷ text) ≡ length (strings_of texts) + 1
number_behind-text texts byte text = cond-false _ 0 (length (strings_of texts) + 1) (not_empty byte text)

-- how many strings there are with one more text
behind_all : (texts : List (List ℕ)) (text : List ℕ)
    → length (strings_of (texts ++ text ∷ [])) ≡ length (strings_of texts) + length (strings_of (text ∷ []))
behind_all texts text =
    ap length (filter-append (λ one. not (length one == 0)) texts (text ∷ [])) ∙ length-append (strings_of texts) (strings_of (text ∷ []))

strings_behind-empty : (texts : List (List ℕ)) → length (strings_of (texts ++ [] ∷ [])) ≡ length (strings_of texts)
strings_behind-empty texts = omega (arith, behind_all texts [])

strings_behind-text : (texts : List (List ℕ)) (byte : ℕ) (text : List ℕ)
    → length (strings_of (texts ++ (byte ∷ text) ∷ [])) ≡ length (strings_of texts) + 1
strings_behind-text texts byte text = omega (arith, behind_all texts (byte ∷ text), ap length (strings_of-next byte text []))

-- and at most as many as texts
pub few_strings : (texts : List (List ℕ)) → length (strings_of texts) ≤ length texts
few_strings [] = omega arith
few_strings ([] ∷ texts) = let others = few_strings texts in omega arith
few_strings ((byte ∷ text) ∷ texts) = omega (arith, ap length (strings_of-next byte text texts), few_strings texts)

-- where there is room, a field is added
pub added_some : (field : Field) (room : ℕ) (size total : RecordSize) (rows more : List Row) (texts names : List (List ℕ)) → 0 < room
    → total ≡ with_size field size → more ≡ rows ++ row_behind texts field ∷ [] → names ≡ texts ++ texts_of field
    → record { room = room - 1; size = total; rows = more; texts = names }
    ≡ added field (record { room = room; size = size; rows = rows; texts = texts })
unfolding added
added_some field zero size total rows more texts names some sum is are = absurd (omega arith)
added_some field (suc room) size total rows more texts names some sum is are =
    let less : suc room - 1 ≡ room = omega arith in
    cc (less, sum, is, are)

-- and where there is none, it is only counted
pub added_none : (field : Field) (room : ℕ) (size total : RecordSize) (rows : List Row) (texts : List (List ℕ)) → room ≤ 0
    → total ≡ with_size field size
    → record { room = room; size = total; rows = rows; texts = texts }
    ≡ added field (record { room = room; size = size; rows = rows; texts = texts })
unfolding added
added_none field zero size total rows texts none sum = cc sum
added_none field (suc room) size total rows texts none sum = absurd (omega arith)

-- the numbers of strings pass by a row that is no string's
numbered-plain : (numbers : List ℕ) (row : Row) (rows : List Row) → is_readable (Plain row) ≡ true
    → numbered numbers (row ∷ rows) ≡ row ∷ numbered numbers rows
numbered-plain numbers (StringNumber number) rows is = absurd (cc is)
numbered-plain numbers row rows is = refl

-- a text's row in front of others has the next number, which the others follow
numbered-text : (texts : List (List ℕ)) (text : List ℕ) (others : List (List ℕ)) (rows : List Row)
    → StringNumber (number_behind texts text) ∷ numbered (numbers_from (length (strings_of (texts ++ text ∷ [])) + 1) others) rows
    ≡ numbered (numbers_from (length (strings_of texts) + 1) (text ∷ others)) (StringNumber 0 ∷ rows)
numbered-text texts [] others rows =
    ap (λ count. StringNumber 0 ∷ numbered (numbers_from (count + 1) others) rows) (strings_behind-empty texts)
numbered-text texts (byte ∷ text) others rows =
    let next = length (strings_of texts) + 1 in
    ap (λ n. StringNumber n ∷ numbered (numbers_from (length (strings_of (texts ++ (byte ∷ text) ∷ [])) + 1) others) rows) (number_behind-text texts byte text)
    ∙ ap (λ count. StringNumber next ∷ numbered (numbers_from (count + 1) others) rows) (strings_behind-text texts byte text)
    ∙ ap (λ numbers. numbered numbers (StringNumber 0 ∷ rows)) (sym (numbers_from-next next byte text others))

-- all of them, where there is room for all
pub record AreAdded (fields : List Field) (rows : List Row) (texts : List (List ℕ)) (after : Gathered) : Type 0 where
  pub rows_are : after.rows ≡ rows ++ numbered (numbers_from (length (strings_of texts) + 1) (field_texts fields)) (field_rows fields)
  pub texts_are : after.texts ≡ texts ++ field_texts fields

pub are_added : (fields : List Field) (room : ℕ) (size : RecordSize) (rows : List Row) (texts : List (List ℕ)) → length fields ≤ room
    → list_all is_readable fields ≡ true
    → AreAdded fields rows texts (all_added fields (record { room = room; size = size; rows = rows; texts = texts }))
unfolding added
are_added [] room size rows texts within are = record { rows_are = sym (append-nil rows); texts_are = sym (append-nil texts) }
are_added (field ∷ fields) zero size rows texts within are = absurd (omega arith)
are_added (Plain row ∷ fields) (suc room) size rows texts within are =
    let parts = and_parts (is_readable (Plain row)) (list_all is_readable fields) are in
    let others = are_added fields room (with_size (Plain row) size) (rows ++ row ∷ []) (texts ++ []) (omega arith) parts.1 in
    let numbers : List (List ℕ) → List ℕ = λ before. numbers_from (length (strings_of before) + 1) (field_texts fields) in
    record {
      rows_are =
          others.rows_are ∙ append_assoc rows (row ∷ []) (numbered (numbers (texts ++ [])) (field_rows fields))
          ∙ ap (λ before. rows ++ row ∷ numbered (numbers before) (field_rows fields)) (append-nil texts)
          ∙ ap (λ more. rows ++ more) (sym (numbered-plain (numbers texts) row (field_rows fields) parts.0));
      texts_are = others.texts_are ∙ append_assoc texts [] (field_texts fields);
    }
are_added (Text text ∷ fields) (suc room) size rows texts within are =
    let parts = and_parts (is_readable (Text text)) (list_all is_readable fields) are in
    let one = StringNumber (number_behind texts text) in
    let others = are_added fields room (with_size (Text text) size) (rows ++ one ∷ []) (texts ++ text ∷ []) (omega arith) parts.1 in
    record {
      rows_are =
          others.rows_are
          ∙ append_assoc rows (one ∷ [])
          (numbered (numbers_from (length (strings_of (texts ++ text ∷ [])) + 1) (field_texts fields)) (field_rows fields))
          ∙ ap (λ more. rows ++ more) (numbered-text texts text (field_texts fields) (field_rows fields));
      texts_are = others.texts_are ∙ append_assoc texts (text ∷ []) (field_texts fields);
    }
