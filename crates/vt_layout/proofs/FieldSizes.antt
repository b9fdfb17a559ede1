-- How many bytes fields have that are counted one after the other.
use Rattle.std.proofs.Common.{◌≡◌, ℕ, zero, suc, ◌+◌, ◌≤◌, min, List, [], ◌∷◌, ◌++◌, length, drop, slice_index_or, length-append, refl, ap, arith}
use Rattle.std.proofs.lemmas.Bool.{cond-false}
use Rattle.vt_bytes.specs.Numbers.{le_bytes}
use Rattle.vt_bytes.proofs.Numbers.{length-le_bytes}
use Rattle.vt_layout.specs.declared.row.Row.{Row}
use Rattle.vt_layout.specs.declared.record_size.RecordSize.{RecordSize}
use Rattle.vt_layout.specs.declared.row.Row.TheVariants.{StringNumber}
use Rattle.vt_layout.specs.Rows.{bytes_of, spelled}
use Rattle.vt_layout.specs.Numbered.{numbered}
use Rattle.vt_layout.specs.Strings.{with_nuls}
use Rattle.vt_layout.specs.Fields.{Field, Plain, Text, Gathered, field_rows, field_texts, field_strings, text_size, most_counted, with_size, added, all_added}
use Rattle.vt_layout.proofs.NamedTexts.{not_empty, strings_of-next}

-- a field is counted whether or not there is room
counted : (field : Field) (room : ℕ) (size : RecordSize) (rows : List Row) (texts : List (List ℕ))
    → (added field (record { room = room; size = size; rows = rows; texts = texts })).size ≡ with_size field size
unfolding added
counted field zero size rows texts = refl
counted field (suc room) size rows texts = refl

-- the strings of one more text
strings_more : (text : List ℕ) (fields : List Field)
    → length (with_nuls (field_strings (Text text ∷ fields))) ≡ text_size text + length (with_nuls (field_strings fields))
strings_more [] fields = omega arith
strings_more (byte ∷ text) fields =
    let own : text_size (byte ∷ text) ≡ length (byte ∷ text) + 1 = cond-false _ 0 (length (byte ∷ text) + 1) (not_empty byte text) in
    omega (
      arith,
      own,
      ap (λ strings. length (with_nuls strings)) (strings_of-next byte text (field_texts fields)),
      length-append ((byte ∷ text) ++ 0 ∷ []) (with_nuls (field_strings fields)),
      length-append (byte ∷ text) (0 ∷ []),
    )

-- rows have as many bytes with the numbers of their strings as without
pub length-numbered : (numbers : List ℕ) (rows : List Row) → length (spelled (numbered numbers rows)) ≡ length (spelled rows)
length-numbered numbers [] = refl
length-numbered numbers (StringNumber m ∷ rows) =
    let number = slice_index_or numbers 0 m in
    let others = spelled (numbered (drop 1 numbers) rows) in
    omega (
      arith,
      length-append (le_bytes 1 number) others,
      length-append (le_bytes 1 m) (spelled rows),
      length-le_bytes 1 number,
      length-le_bytes 1 m,
      length-numbered (drop 1 numbers) rows,
    )
length-numbered numbers (row ∷ rows) =
    omega (arith, length-append (bytes_of row) (spelled (numbered numbers rows)), length-append (bytes_of row) (spelled rows), length-numbered numbers rows)

pub area_counted : (fields : List Field) (all : Gathered) → all.size.area ≤ most_counted
    → (all_added fields all).size.area ≡ min (all.size.area + length (spelled (field_rows fields))) most_counted
area_counted [] all small = omega arith
area_counted (Plain row ∷ fields) all small =
    let one = ap (λ (size : RecordSize). size.area) (counted (Plain row) all.room all.size all.rows all.texts) in
    omega (arith, one, length-append (bytes_of row) (spelled (field_rows fields)), area_counted fields (added (Plain row) all) (omega (arith, one)))
area_counted (Text text ∷ fields) all small =
    let one = ap (λ (size : RecordSize). size.area) (counted (Text text) all.room all.size all.rows all.texts) in
    omega (
      arith,
      one,
      length-append (le_bytes 1 0) (spelled (field_rows fields)),
      length-le_bytes 1 0,
      area_counted fields (added (Text text) all) (omega (arith, one)),
    )

pub strings_counted : (fields : List Field) (all : Gathered) → all.size.strings ≤ most_counted
    → (all_added fields all).size.strings ≡ min (all.size.strings + length (with_nuls (field_strings fields))) most_counted
strings_counted [] all small = omega arith
strings_counted (Plain row ∷ fields) all small =
    let one = ap (λ (size : RecordSize). size.strings) (counted (Plain row) all.room all.size all.rows all.texts) in
    omega (arith, one, strings_counted fields (added (Plain row) all) (omega (arith, one)))
strings_counted (Text text ∷ fields) all small =
    let one = ap (λ (size : RecordSize). size.strings) (counted (Text text) all.room all.size all.rows all.texts) in
    omega (arith, one, strings_more text fields, strings_counted fields (added (Text text) all) (omega (arith, one)))
