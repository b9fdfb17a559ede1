-- The text of a memory: its top and fill byte, and a line for each 16 bytes of RAM that aren't all the fill byte.
use Rattle.std.specs.Prelude.{ℕ, ◌+◌, ◌-◌, ◌*◌, ◌/◌, List, [], ◌∷◌, ◌++◌, codes, ◌==◌, if◌then◌else◌}
use Rattle.std.specs.List.{flat_map, list_all, range_with_len}
use Rattle.std.specs.Int.{w32, to_be_bytes}
use Rattle.hex.specs.Hex.{encode_lower}
use Rattle.vt_bytes.specs.declared.memory.AddressRange.{AddressRange}
use Rattle.vt_bytes.specs.Memory.{Memory, bytes_at, ram_ranges}

-- an address or a top in 8 digits, lower-case hexadecimal as all digits of a dump
abbrev pub digits_of_address : ℕ → List ℕ
digits_of_address address = encode_lower (to_be_bytes w32 address)

-- the first line
unfoldable pub header_line : ℕ → ℕ → List ℕ
header_line top fill = codes "top " ++ digits_of_address top ++ codes " fill " ++ encode_lower (fill ∷ []) ++ 10 ∷ []

-- an address and the 16 bytes there
unfoldable pub row_text : ℕ → List ℕ → List ℕ
row_text address row = digits_of_address address ++ codes " " ++ encode_lower row ++ 10 ∷ []

-- the line of 16 bytes at an address: none where all are the fill byte
abbrev pub row_line : ℕ → ℕ → List ℕ → List ℕ
row_line fill address row = if list_all (λ byte. byte == fill) row then [] else row_text address row

-- the last line
unfoldable pub last_line : List ℕ
last_line = codes "end" ++ 10 ∷ []

-- the lines of so many rows from an address on
unfoldable pub rows_text : Memory → ℕ → ℕ → List ℕ
rows_text m start count =
    flat_map (λ k. row_line m.fill (start + 16 * k) (bytes_at m (start + 16 * k) 16)) (range_with_len 0 count)

-- the lines of a range of RAM
abbrev pub range_text : Memory → AddressRange → List ℕ
range_text m range = rows_text m range.start ((range.end - range.start) / 16)

-- the lines of ranges of RAM, one after the other
unfoldable pub ranges_text : Memory → List AddressRange → List ℕ
ranges_text m ranges = flat_map (range_text m) ranges

-- all of it
unfoldable pub dump : Memory → List ℕ
dump m = header_line m.top m.fill ++ ranges_text m (ram_ranges m.top) ++ last_line
