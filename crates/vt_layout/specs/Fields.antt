-- What a record says, as fields in the order of its rows: their rows, their texts and their values, and how they are gathered.
use Rattle.std.specs.Prelude.{ℕ, zero, suc, ◌+◌, min, List, [], ◌∷◌, ◌++◌, length, map, slice_set, ◌==◌, if◌then◌else◌}
use Rattle.std.specs.List.{flat_map}
use Rattle.vt_layout.specs.declared.row.Row.{Row}
use Rattle.vt_layout.specs.declared.row.Row.TheVariants.{Number, BigEndian, Bytes, StringNumber, Reserved}
use Rattle.vt_layout.specs.declared.record_size.RecordSize.{RecordSize}
use Rattle.vt_layout.specs.declared.value.Value.{Value}
use Rattle.vt_layout.specs.declared.value.Value.TheVariants as values
use Rattle.vt_layout.specs.Rows.{bytes_of, spelled}
use Rattle.vt_layout.specs.Strings.{numbers_from, strings_of}
use Rattle.vt_layout.specs.Numbered.{numbered}
use Rattle.vt_layout.specs.Values.{value_of}

-- A field is a row, or a text, whose string's number has a row of one byte.
pub data Field : Type 0 where
  Plain : Row → Field
  Text : List ℕ → Field

-- numbers of one, two, four and eight bytes, low byte first
abbrev pub byte : ℕ → Field
byte n = Plain (Number 1 n)

abbrev pub word : ℕ → Field
word n = Plain (Number 2 n)

abbrev pub dword : ℕ → Field
dword n = Plain (Number 4 n)

abbrev pub qword : ℕ → Field
qword n = Plain (Number 8 n)

-- numbers of two, four and eight bytes, high byte first
abbrev pub big_word : ℕ → Field
big_word n = Plain (BigEndian 2 n)

abbrev pub big_dword : ℕ → Field
big_dword n = Plain (BigEndian 4 n)

abbrev pub big_qword : ℕ → Field
big_qword n = Plain (BigEndian 8 n)

-- bytes as they stand
abbrev pub four : List ℕ → Field
four bytes = Plain (Bytes 4 bytes)

abbrev pub six : List ℕ → Field
six bytes = Plain (Bytes 6 bytes)

abbrev pub eight : List ℕ → Field
eight bytes = Plain (Bytes 8 bytes)

abbrev pub sixteen : List ℕ → Field
sixteen bytes = Plain (Bytes 16 bytes)

abbrev pub reserved : ℕ → Field
reserved width = Plain (Reserved width)

-- the row of a field, which is that of no string where it is a text's
abbrev pub row_of : Field → Row
row_of (Plain row) = row
row_of (Text text) = StringNumber 0

abbrev pub texts_of : Field → List (List ℕ)
texts_of (Plain row) = []
texts_of (Text text) = text ∷ []

-- the value that a reader takes of a field
abbrev pub field_value : Field → Value
field_value (Plain row) = value_of row
field_value (Text text) = values.Text text

abbrev pub field_rows : List Field → List Row
field_rows fields = map row_of fields

abbrev pub field_texts : List Field → List (List ℕ)
field_texts fields = flat_map texts_of fields

abbrev pub field_values : List Field → List Value
field_values fields = map field_value fields

-- Fields as they are written: texts are numbered in their order, each that isn't empty, and follow as strings (DMTF DSP0134, version
-- 3.0.0, 6.1.3).
abbrev pub numbered_rows : List Field → List Row
numbered_rows fields = numbered (numbers_from 1 (field_texts fields)) (field_rows fields)

abbrev pub field_bytes : List Field → List ℕ
field_bytes fields = spelled (numbered_rows fields)

abbrev pub field_strings : List Field → List (List ℕ)
field_strings fields = strings_of (field_texts fields)

-- Rows and texts that are gathered of fields, one after the other, how many more rows there is room for, and how many bytes all have, those
-- too for which there was no room.
pub record Gathered : Type 0 where
  pub room : ℕ
  pub size : RecordSize
  pub rows : List Row
  pub texts : List (List ℕ)

-- how many bytes the string of a text has with its NUL; an empty text is no string
abbrev pub text_size : List ℕ → ℕ
text_size text = if length text == 0 then 0 else length text + 1

-- the greatest number that is counted
abbrev pub most_counted : ℕ
most_counted = 0xFFFFFFFFFFFFFFFF

-- with the bytes of one more field, each number at most the greatest that is counted
abbrev pub with_size : Field → RecordSize → RecordSize
with_size (Plain row) all = record { area = min (all.area + length (bytes_of row)) most_counted; strings = all.strings }
with_size (Text text) all =
    record { area = min (all.area + 1) most_counted; strings = min (all.strings + text_size text) most_counted }

-- the number of a text behind others
abbrev pub number_behind : List (List ℕ) → List ℕ → ℕ
number_behind texts text = if length text == 0 then 0 else length (strings_of texts) + 1

abbrev pub row_behind : List (List ℕ) → Field → Row
row_behind texts (Plain row) = row
row_behind texts (Text text) = StringNumber (number_behind texts text)

-- with one more field, where there is room; where there is none it is only counted
abbrev with_room : ℕ → Field → Gathered → Gathered
with_room zero field all = record { room = 0; size = with_size field all.size; rows = all.rows; texts = all.texts }
with_room (suc room) field all = record {
  room = room;
  size = with_size field all.size;
  rows = all.rows ++ row_behind all.texts field ∷ [];
  texts = all.texts ++ texts_of field;
}

unfoldable pub added : Field → Gathered → Gathered
added field all = with_room all.room field all

-- with one field after the other
abbrev pub all_added : List Field → Gathered → Gathered
all_added [] all = all
all_added (field ∷ fields) all = all_added fields (added field all)

-- with another row in place of the one at a place
abbrev pub with_row : ℕ → Row → Gathered → Gathered
with_row place row all = record { room = all.room; size = all.size; rows = slice_set all.rows place row; texts = all.texts }
