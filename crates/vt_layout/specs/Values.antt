-- Values: what a reader takes of rows, one of each row. A record is made of them by their places.
use Rattle.std.specs.Prelude.{ℕ, zero, suc, List, [], ◌∷◌, replicate, ◌==◌, if◌then◌else◌}
use Rattle.vt_layout.specs.declared.row.Row.{Row}
use Rattle.vt_layout.specs.declared.row.Row.TheVariants.{Number, BigEndian, Bytes, StringNumber}
use Rattle.vt_layout.specs.declared.value.Value.{Value}
use Rattle.vt_layout.specs.declared.value.Value.TheVariants as values

-- the first value, which is Nothing where there is none
abbrev pub first : List Value → Value
first [] = values.Nothing
first (value ∷ more) = value

-- all but the first
abbrev pub rest : List Value → List Value
rest [] = []
rest (value ∷ more) = more

-- all but the first so many, and the value at a place, counted from 0. Both compute though nothing is known of the values.
abbrev pub skip : ℕ → List Value → List Value
skip zero all = all
skip (suc n) all = skip n (rest all)

abbrev pub value_at : ℕ → List Value → Value
value_at n all = first (skip n all)

-- What a record that wants a value of one kind makes of any value: of another kind it makes 0, zeros, or the empty text.

abbrev pub byte_of : Value → ℕ
byte_of (values.Byte n) = n
byte_of _ = 0

abbrev pub word_of : Value → ℕ
word_of (values.Word n) = n
word_of _ = 0

abbrev pub dword_of : Value → ℕ
dword_of (values.Dword n) = n
dword_of _ = 0

abbrev pub qword_of : Value → ℕ
qword_of (values.Qword n) = n
qword_of _ = 0

abbrev pub four_of : Value → List ℕ
four_of (values.Four bytes) = bytes
four_of _ = replicate 4 0

abbrev pub six_of : Value → List ℕ
six_of (values.Six bytes) = bytes
six_of _ = replicate 6 0

abbrev pub eight_of : Value → List ℕ
eight_of (values.Eight bytes) = bytes
eight_of _ = replicate 8 0

abbrev pub sixteen_of : Value → List ℕ
sixteen_of (values.Sixteen bytes) = bytes
sixteen_of _ = replicate 16 0

abbrev pub text_of : Value → List ℕ
text_of (values.Text text) = text
text_of _ = []

-- The value of a number of so many bytes, and of so many bytes as they stand. There is none of another width.

abbrev pub number_value : ℕ → ℕ → Value
number_value width n =
    if width == 1 then values.Byte n else if width == 2 then values.Word n else if width == 4 then values.Dword n
    else if width == 8 then values.Qword n else values.Nothing

abbrev pub bytes_value : ℕ → List ℕ → Value
bytes_value width bytes =
    if width == 4 then values.Four bytes else if width == 6 then values.Six bytes else if width == 8 then values.Eight bytes
    else if width == 16 then values.Sixteen bytes else values.Nothing

-- the value of a row that is no string's number: a number in either order, or bytes
abbrev pub value_of : Row → Value
value_of (Number width n) = number_value width n
value_of (BigEndian width n) = number_value width n
value_of (Bytes width bytes) = bytes_value width bytes
value_of row = values.Nothing

-- the first of some texts, which is empty where there is none, and the others
abbrev pub first_text : List (List ℕ) → List ℕ
first_text [] = []
first_text (text ∷ texts) = text

abbrev pub other_texts : List (List ℕ) → List (List ℕ)
other_texts [] = []
other_texts (text ∷ texts) = texts

-- the values of rows, in which the numbers of strings name these texts, in order
abbrev pub values_of : List Row → List (List ℕ) → List Value
values_of [] texts = []
values_of (StringNumber number ∷ rows) texts = values.Text (first_text texts) ∷ values_of rows (other_texts texts)
values_of (row ∷ rows) texts = value_of row ∷ values_of rows texts
