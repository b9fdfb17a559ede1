-- Records that stand in bytes by rows: where one stands, and what bytes are read as.
use Rattle.std.specs.Prelude.{◌≡◌, ℕ, Bool, true, false, ◌&&◌, List, [], ◌∷◌, length, take, drop, Option, Some, None, Result, Ok, Err}
use Rattle.std.specs.Prelude.{nat_lt, if◌then◌else◌}
use Rattle.std.specs.List.{list_all}
use Rattle.vt_bytes.specs.Numbers.{le}
use Rattle.vt_bytes.specs.View.{View}
use Rattle.vt_layout.specs.declared.row.Row.{Row}
use Rattle.vt_layout.specs.declared.row.Row.TheVariants.{Named, StringNumber, Pointer, Sum}
use Rattle.vt_layout.specs.declared.value.Value.{Value}
use Rattle.vt_layout.specs.declared.value.Value.TheVariants as values
use Rattle.vt_layout.specs.declared.record_reader.RecordFault.{RecordFault}
use Rattle.vt_layout.specs.declared.record_reader.RecordFault.TheVariants.{TooShort, NoSuchString}
use Rattle.vt_layout.specs.Rows.{width_of, size, shape, string_numbers}
use Rattle.vt_layout.specs.Shown.{Shown}
use Rattle.vt_layout.specs.Strings.{string_of, AreNamed}
use Rattle.vt_layout.specs.Reading.{row_in}
use Rattle.vt_layout.specs.Values.{value_of, values_of}
use Rattle.vt_layout.specs.Fields.{Field, Plain, field_rows, field_values, numbered_rows}

-- The test of a field whose row any bytes can be. What a reader tests (a file's name, a sum), and a
-- pointer, are no such fields; nor is a string's number with no text.
abbrev pub is_readable : Field → Bool
is_readable (Plain (Named name)) = false
is_readable (Plain (StringNumber number)) = false
is_readable (Plain (Pointer width target offset)) = false
is_readable (Plain (Sum covers)) = false
is_readable field = true

-- of all fields of a record, which have fewer than 64 KiB
abbrev pub are_readable : List Field → Bool
are_readable fields = list_all is_readable fields && nat_lt (size (field_rows fields)) 0x10000

-- The law of a type of records: what is made of the values of a record's fields is the record. All have as many rows, of one shape.
pub record IsLawful {T : Type 0} (count : ℕ) (fields : T → List Field) (made : List Value → T) (t u : T) : Type 0 where
  pub back : made (field_values (fields t)) ≡ t
  pub shaped : shape (field_rows (fields t)) ≡ shape (field_rows (fields u))
  pub counted : length (fields t) ≡ count
  pub readable : are_readable (fields t) ≡ true

-- the rows of a record that is made of no values, whose shape is that of each
abbrev pub kinds_of : {T : Type 0} → (T → List Field) → (List Value → T) → List Row
kinds_of fields made = numbered_rows (fields (made []))

-- A record stands at an address of the layout that begins at start: rows of its type's shape are shown there, the strings of the
-- numbers in them are these texts, and it is made of both.
pub record IsLaid {T : Type 0} (fields : T → List Field) (made : List Value → T) (view : View) (start address : ℕ)
    (strings : List (List ℕ)) (t : T) : Type 0 where
  pub rows : List Row
  pub texts : List (List ℕ)
  pub shaped : shape rows ≡ shape (kinds_of fields made)
  pub shown : Shown view start address rows
  pub named : AreNamed strings (string_numbers rows) texts
  pub says : t ≡ made (values_of rows texts)

-- what a row's bytes say: of a string's number its text, where there is such a string
abbrev pub text_said : ℕ → Option (List ℕ) → Result Value RecordFault
text_said number None = Err (NoSuchString number)
text_said number (Some text) = Ok (values.Text text)

abbrev pub value_said : Row → List ℕ → List (List ℕ) → Result Value RecordFault
value_said (StringNumber number) bytes strings = text_said (le bytes) (string_of strings (le bytes))
value_said row bytes strings = Ok (value_of (row_in row bytes))

-- a value in front of others, or the first fault of them
abbrev pub joined : Result Value RecordFault → Result (List Value) RecordFault → Result (List Value) RecordFault
joined (Err fault) more = Err fault
joined (Ok value) (Err fault) = Err fault
joined (Ok value) (Ok more) = Ok (value ∷ more)

-- what bytes say that begin with rows, or the first string that is missing
abbrev pub values_said : List Row → List ℕ → List (List ℕ) → Result (List Value) RecordFault
values_said [] bytes strings = Ok []
values_said (row ∷ rows) bytes strings =
    joined (value_said row (take (width_of row) bytes) strings) (values_said rows (drop (width_of row) bytes) strings)

abbrev pub made_of : {T : Type 0} → (List Value → T) → Result (List Value) RecordFault → Result T RecordFault
made_of made (Err fault) = Err fault
made_of made (Ok all) = Ok (made all)

-- The record that stands at the front of an area, or why none does: the area is shorter than its rows, or a string is missing.
abbrev pub record_in : {T : Type 0} → (T → List Field) → (List Value → T) → List ℕ → List (List ℕ) → Result T RecordFault
record_in fields made area strings =
    if nat_lt (length area) (size (kinds_of fields made)) then Err TooShort
    else made_of made (values_said (kinds_of fields made) area strings)
