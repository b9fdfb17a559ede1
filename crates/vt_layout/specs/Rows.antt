-- A layout as rows, one after the other: how many bytes each has, and which it is written as.
use Rattle.std.specs.Prelude.{◌≡◌, ℕ, zero, suc, ◌+◌, ◌^◌, ◌<◌, ◌≤◌, ◌⊎◌, List, [], ◌∷◌, ◌++◌, length, map, replicate}
use Rattle.vt_outside.specs.Name.{IsName, in_field}
use Rattle.vt_bytes.specs.Numbers.{le_bytes, be_bytes}
use Rattle.vt_layout.specs.declared.row.Row.{Row}
use Rattle.vt_layout.specs.declared.row.Row.TheVariants.{Number, BigEndian, Bytes, Named, StringNumber, Ignored, Reserved, Pointer, Sum}

-- how many bytes a row has
abbrev pub width_of : Row → ℕ
width_of (Number width value) = width
width_of (BigEndian width value) = width
width_of (Bytes width bytes) = width
width_of (Named name) = 56
width_of (StringNumber number) = 1
width_of (Ignored width value) = width
width_of (Reserved width) = width
width_of (Pointer width target offset) = width
width_of (Sum covers) = 1

-- The bytes that a row is written as. A pointer holds its offset until its target's place is added, and a sum's byte is zero
-- until the sum is subtracted.
abbrev pub bytes_of : Row → List ℕ
bytes_of (Number width value) = le_bytes width value
bytes_of (BigEndian width value) = be_bytes width value
bytes_of (Bytes width bytes) = bytes
bytes_of (Named name) = in_field name
bytes_of (StringNumber number) = le_bytes 1 number
bytes_of (Ignored width value) = le_bytes width value
bytes_of (Reserved width) = replicate width 0
bytes_of (Pointer width target offset) = le_bytes width offset
bytes_of (Sum covers) = 0 ∷ []

-- the same of rows
abbrev pub size : List Row → ℕ
size [] = 0
size (row ∷ rows) = width_of row + size rows

abbrev pub spelled : List Row → List ℕ
spelled [] = []
spelled (row ∷ rows) = bytes_of row ++ spelled rows

-- a pointer has 1, 2, 4 or 8 bytes
abbrev pub IsPointerSize : ℕ → Type 0
IsPointerSize size = (size ≡ 1) ⊎ ((size ≡ 2) ⊎ ((size ≡ 4) ⊎ (size ≡ 8)))

-- files are placed below 3 GiB, where the RAM of each machine ends
abbrev pub places_end : ℕ
places_end = 0xC0000000

-- a row whose value fits it, where it is a pointer also with any place of a file added
abbrev pub IsRow : Row → Type 0
IsRow (Number width value) = (width ≤ 8) × (value < 256 ^ width)
IsRow (BigEndian width value) = (width ≤ 8) × (value < 256 ^ width)
IsRow (Bytes width bytes) = length bytes ≡ width
IsRow (Named name) = IsName name
IsRow (StringNumber number) = number < 256
IsRow (Ignored width value) = (width ≤ 8) × (value < 256 ^ width)
IsRow (Reserved width) = Unit {0}
IsRow (Pointer width target offset) = IsPointerSize width × (offset + places_end ≤ 256 ^ width)
IsRow (Sum covers) = Unit {0}

-- a row that stands as it is written: neither a pointer nor a sum
abbrev pub IsPlain : Row → Type 0
IsPlain (Pointer width target offset) = ⊥
IsPlain (Sum covers) = ⊥
IsPlain row = Unit {0}

-- a pointer with its target's place added, where each file stands at its place; any other row as it is
abbrev pub linked_row : (List ℕ → ℕ) → Row → Row
linked_row place_of (Pointer width target offset) = Number width (offset + place_of target)
linked_row place_of row = row

abbrev pub linked : (List ℕ → ℕ) → List Row → List Row
linked place_of rows = map (linked_row place_of) rows

-- a row without what a reader takes from it: what kind it is, how many bytes it has, and what it is tested against
abbrev pub shape_of : Row → Row
shape_of (Number width value) = Number width 0
shape_of (BigEndian width value) = BigEndian width 0
shape_of (Bytes width bytes) = Bytes width []
shape_of (Named name) = Named []
shape_of (StringNumber number) = StringNumber 0
shape_of (Pointer width target offset) = Pointer width [] 0
shape_of row = row

abbrev pub shape : List Row → List Row
shape rows = map shape_of rows

-- the number of the row with this index, or 0 where it has none
abbrev pub number : ℕ → List Row → ℕ
number k [] = 0
number zero (Number width value ∷ rows) = value
number zero (BigEndian width value ∷ rows) = value
number zero (row ∷ rows) = 0
number (suc k) (row ∷ rows) = number k rows

-- its bytes, or none
abbrev pub text : ℕ → List Row → List ℕ
text k [] = []
text zero (Bytes width bytes ∷ rows) = bytes
text zero (Named name ∷ rows) = name
text zero (row ∷ rows) = []
text (suc k) (row ∷ rows) = text k rows

-- the numbers of strings in rows, in order
abbrev pub string_numbers : List Row → List ℕ
string_numbers [] = []
string_numbers (StringNumber number ∷ rows) = number ∷ string_numbers rows
string_numbers (row ∷ rows) = string_numbers rows
