-- A dump as a reader sees it: a top, a fill byte and a list of rows, each of which has a line.
use Rattle.std.specs.Prelude.{◌≡◌, ℕ, ◌+◌, ◌-◌, ◌*◌, ◌/◌, ◌%◌, ◌<◌, ◌≤◌, Bool, false, ◌==◌, ◌∷◌, [], List, ◌++◌, length, map, replicate, if◌then◌else◌}
use Rattle.std.specs.List.{AllByRecursion, flat_map, list_all, range_with_len}
use Rattle.vt_bytes.specs.declared.memory.AddressRange.{AddressRange}
use Rattle.vt_bytes.specs.Memory.{Memory, IsTop, IsRam, bytes_at, ram_ranges, with_bytes}
use Rattle.memory_dump.specs.Dump.{header_line, last_line, row_text}
use Rattle.memory_dump.specs.declared.row.Row.{Row}

-- The top, the fill byte and the rows of a dump.
pub record Rows : Type 0 where
  pub top : ℕ
  pub fill : ℕ
  pub rows : List Row

-- the line of a row
abbrev pub text_of_row : Row → List ℕ
text_of_row row = row_text row.address row.bytes

-- the text: the first line, a line for each row, the last line
unfoldable pub text_of : Rows → List ℕ
text_of d = header_line d.top d.fill ++ flat_map text_of_row d.rows ++ last_line

-- each of them is a byte
abbrev pub AreBytes : List ℕ → Type 0
AreBytes bytes = AllByRecursion (λ byte. byte < 256) bytes

-- whether a row holds the fill byte alone
abbrev pub is_fill : ℕ → List ℕ → Bool
is_fill fill bytes = list_all (λ byte. byte == fill) bytes

-- A row that has a line: 16 bytes at an address of RAM that is a multiple of 16, not all of them the fill byte.
pub record IsRow (top fill : ℕ) (row : Row) : Type 0 where
  pub ram : IsRam top row.address
  pub aligned : row.address % 16 ≡ 0
  pub size : length row.bytes ≡ 16
  pub bytes : AreBytes row.bytes
  pub other : is_fill fill row.bytes ≡ false

-- A line is spelled as the one of a row: 16 bytes at a multiple of 16.
pub record IsSpelled (line : List ℕ) (row : Row) : Type 0 where
  pub text : line ≡ text_of_row row
  pub aligned : row.address % 16 ≡ 0
  pub size : length row.bytes ≡ 16
  pub bytes : AreBytes row.bytes

-- each is a row that has a line, from an address on, and stands behind the one before it
abbrev pub Ascend : ℕ → ℕ → ℕ → List Row → Type 0
Ascend top fill from [] = Unit {0}
Ascend top fill from (row ∷ rows) = (from ≤ row.address) × IsRow top fill row × Ascend top fill (row.address + 1) rows

-- What a lawful dump says: its top is lawful, and its rows stand in the order of their addresses.
pub record AreRows (d : Rows) : Type 0 where
  pub top : IsTop d.top
  pub fill : d.fill < 256
  pub ascend : Ascend d.top d.fill 0 d.rows

-- the addresses of RAM that are multiples of 16, in order
unfoldable pub addresses_in : AddressRange → List ℕ
addresses_in range = map (λ k. range.start + 16 * k) (range_with_len 0 ((range.end - range.start) / 16))

unfoldable pub row_addresses : ℕ → List ℕ
row_addresses top = flat_map addresses_in (ram_ranges top)

-- the row of a memory at an address, where it isn't all the fill byte
abbrev pub row_at : Memory → ℕ → List Row
row_at m address =
    if is_fill m.fill (bytes_at m address 16) then [] else (record { address = address; bytes = bytes_at m address 16 } ∷ [])

-- the rows of a memory that have lines
unfoldable pub rows_of : Memory → Rows
rows_of m = record { top = m.top; fill = m.fill; rows = flat_map (row_at m) (row_addresses m.top) }

-- the memory of a top whose bytes of RAM are all the fill byte
unfoldable pub blank : ℕ → ℕ → Memory
blank top fill = record {
  top = top;
  fill = fill;
  parts = map (λ (range : AddressRange). replicate (range.end - range.start) fill) (ram_ranges top);
}

-- a memory with the bytes of rows put in it, one row after the other
unfoldable pub with_rows : Memory → List Row → Memory
with_rows m [] = m
with_rows m (row ∷ rows) = with_rows (with_bytes m row.address row.bytes) rows

-- the memory that a dump tells
abbrev pub memory_of : Rows → Memory
memory_of d = with_rows (blank d.top d.fill) d.rows
