-- What stands at a row, in bytes that begin with the first row of a layout.
use Rattle.std.specs.Prelude.{◌≡◌, ℕ, ◌^◌, ◌<◌, ◌≤◌, List, [], ◌∷◌, length, take, drop, slice_index_or, Result}
use Rattle.vt_outside.specs.Name.{name_of, before_nul}
use Rattle.vt_outside.specs.declared.name.NameFault.{NameFault}
use Rattle.vt_bytes.specs.Numbers.{le, be}
use Rattle.vt_bytes.specs.Parts.{part}
use Rattle.vt_layout.specs.declared.row.Row.{Row}
use Rattle.vt_layout.specs.declared.row.Row.TheVariants.{Number, BigEndian, Bytes, Named, StringNumber, Ignored, Reserved}
use Rattle.vt_layout.specs.Rows.{width_of, size}

-- the row with this index, or one of no bytes where there is none
abbrev pub row_at : ℕ → List Row → Row
row_at k rows = slice_index_or rows k (Reserved 0)

-- how many bytes stand before it
abbrev pub place_of_row : ℕ → List Row → ℕ
place_of_row k rows = size (take k rows)

-- the bytes at it
abbrev pub bytes_at_row : ℕ → List Row → List ℕ → List ℕ
bytes_at_row k rows bytes = part bytes (place_of_row k rows) (width_of (row_at k rows))

-- the number that the bytes of a row spell, high byte first where the row says so
abbrev pub value_in : Row → List ℕ → ℕ
value_in (BigEndian width value) bytes = be bytes
value_in row bytes = le bytes

-- the number at the row with this index, and the name
abbrev pub read_number : ℕ → List Row → List ℕ → ℕ
read_number k rows bytes = value_in (row_at k rows) (bytes_at_row k rows bytes)

abbrev pub read_name : ℕ → List Row → List ℕ → Result (List ℕ) NameFault
read_name k rows bytes = name_of (before_nul (bytes_at_row k rows bytes))

-- a row is a number of this many bytes, or a name
abbrev pub IsNumber : ℕ → Row → Type 0
IsNumber count (Number width value) = width ≡ count
IsNumber count (BigEndian width value) = width ≡ count
IsNumber count row = ⊥

abbrev pub IsNamed : Row → Type 0
IsNamed (Named name) = Unit {0}
IsNamed row = ⊥

-- the bytes reach to the end of the rows
abbrev pub Reach : List ℕ → List Row → Type 0
Reach bytes rows = (size rows ≤ length bytes) × (size rows < 2 ^ 32)

-- a row that any bytes can be: a number, bytes, the number of a string, or what no reader looks at
abbrev pub IsReadable : Row → Type 0
IsReadable (Number width value) = Unit {0}
IsReadable (BigEndian width value) = Unit {0}
IsReadable (Bytes width bytes) = Unit {0}
IsReadable (StringNumber number) = Unit {0}
IsReadable (Ignored width value) = Unit {0}
IsReadable (Reserved width) = Unit {0}
IsReadable row = ⊥

-- the row of a shape that its bytes are
abbrev pub row_in : Row → List ℕ → Row
row_in (Number width value) bytes = Number width (le bytes)
row_in (BigEndian width value) bytes = BigEndian width (be bytes)
row_in (Bytes width text) bytes = Bytes width bytes
row_in (StringNumber number) bytes = StringNumber (le bytes)
row_in row bytes = row

-- the rows of a shape that bytes begin with
abbrev pub rows_in : List Row → List ℕ → List Row
rows_in [] bytes = []
rows_in (row ∷ rows) bytes = row_in row (take (width_of row) bytes) ∷ rows_in rows (drop (width_of row) bytes)
