-- How a dump is read: line by line, up to the first fault.
use Rattle.std.specs.Prelude.{ℕ, ◌+◌, ◌*◌, ◌%◌, Bool, ◌&&◌, not, ◌==◌, List, [], ◌∷◌, length, take, drop, Option, Some, None, Result, Ok, Err}
use Rattle.std.specs.Prelude.{nat_lt, nat_le, slice_index, if◌then◌else◌}
use Rattle.std.specs.Str.{bytes_eq}
use Rattle.std.specs.Int.{w32, from_be_bytes}
use Rattle.vt_bytes.specs.Memory.{Memory, is_ram, with_bytes}
use Rattle.vt_outside.specs.Stream.{line_feeds}
use Rattle.vt_outside.specs.Readings.{◌into◌}
use Rattle.std.specs.Option.{ok_or}
use Rattle.memory_dump.specs.Dump.{header_line, last_line, row_text}
use Rattle.memory_dump.specs.Rows.{blank, is_fill}
use Rattle.memory_dump.specs.declared.row.Row.{Row}
use Rattle.memory_dump.specs.declared.header.Header.{Header}
use Rattle.memory_dump.specs.declared.fault.DumpFault.{DumpFault}
use Rattle.memory_dump.specs.declared.fault.DumpFault.TheVariants.{BadHeader, BadLine, OutOfOrder, AllFill, NotRam, Truncated, OutOfMemory}

-- Bytes as lines: the whole lines, each with the line feed that ends it, and what stands behind the last line feed.
pub record Lines : Type 0 where
  pub whole : List (List ℕ)
  pub rest : List ℕ

-- one more byte in front of lines: a line feed is a line of its own, and any other byte begins the first line
abbrev pub in_front : ℕ → List (List ℕ) → List ℕ → Lines
in_front byte [] rest = record { whole = []; rest = byte ∷ rest }
in_front byte (line ∷ lines) rest = record { whole = (byte ∷ line) ∷ lines; rest = rest }

abbrev pub one_more : ℕ → Lines → Lines
one_more byte l = if byte == 10 then (record { whole = (byte ∷ []) ∷ l.whole; rest = l.rest }) else in_front byte l.whole l.rest

unfoldable pub lines_of : List ℕ → Lines
lines_of [] = record { whole = []; rest = [] }
lines_of (byte ∷ bytes) = one_more byte (lines_of bytes)

-- How many line feeds the bytes have: what is told with a text that was cut off.
abbrev pub whole_lines : List ℕ → ℕ
whole_lines bytes = line_feeds bytes

-- the number below 16 that a digit stands for, and another byte for any
abbrev pub digit_value : ℕ → ℕ
digit_value digit = if nat_le digit 57 then digit % 16 else (digit + 9) % 16

-- the bytes that digits stand for, two for each
unfoldable pub bytes_of : List ℕ → List ℕ
bytes_of [] = []
bytes_of (digit ∷ []) = []
bytes_of (high ∷ low ∷ digits) = (digit_value high * 16 + digit_value low) ∷ bytes_of digits

-- The row that a line tells, if it is a row's line. Its bytes are taken for digits, whatever they are; then the line of the row that they
-- give has to be this line.
abbrev pub row_read : List ℕ → Row
row_read line = record { address = from_be_bytes w32 (bytes_of (take 8 line)); bytes = bytes_of (take 32 (drop 9 line)) }

abbrev pub is_line_of : List ℕ → Row → Bool
is_line_of line row = bytes_eq (row_text row.address row.bytes) line && (row.address % 16 == 0 && length line == 42)

abbrev pub row_if : List ℕ → Row → Option Row
row_if line row = if is_line_of line row then Some row else None

unfoldable pub row_of : List ℕ → Option Row
row_of line = row_if line (row_read line)

-- The top and the fill byte that a line tells, if it is the first line of a dump, in the same way. The top has to be lawful.
abbrev pub header_read : List ℕ → Header
header_read line = record {
  top = from_be_bytes w32 (bytes_of (take 8 (drop 4 line)));
  fill = slice_index (bytes_of (take 2 (drop 18 line))) 0;
}

abbrev pub is_top : ℕ → Bool
is_top top = nat_le 0x4000000 top && (nat_le top 0xC0000000 && top % 0x100000 == 0)

abbrev pub is_first_line_of : List ℕ → Header → Bool
is_first_line_of line header = bytes_eq (header_line header.top header.fill) line && is_top header.top

abbrev pub header_if : List ℕ → Header → Option Header
header_if line header = if is_first_line_of line header then Some header else None

unfoldable pub header_of : List ℕ → Option Header
header_of line = header_if line (header_read line)

-- Why a row isn't taken, the first reason: its address is no RAM, or lies below that from which rows are awaited, or its bytes are all the
-- fill byte.
unfoldable pub fault_of_row : Memory → ℕ → ℕ → Row → Option DumpFault
fault_of_row m number from row =
    if not (is_ram m.top row.address) then Some (NotRam number)
    else (if nat_lt row.address from then Some (OutOfOrder number) else (if is_fill m.fill row.bytes then Some (AllFill number) else None))

-- a value, where there is no fault
abbrev pub unless : {T : Type 0} → Option DumpFault → T → Result T DumpFault
unless None value = Ok value
unless (Some fault) value = Err fault

-- what a row's line says of the memory so far, by the line's number and the address from which rows are awaited
abbrev pub row_so : Memory → ℕ → ℕ → List ℕ → Result Row DumpFault
row_so m number from line = ok_or (row_of line) (BadLine number) into (λ row. unless (fault_of_row m number from row) row)

-- Behind the last line nothing stands, or else the line behind it is at fault, whether it is whole or not.
abbrev pub ended : Memory → ℕ → List (List ℕ) → List ℕ → Result Memory DumpFault
ended m number [] [] = Ok m
ended m number [] (byte ∷ rest) = Err (BadLine (number + 1))
ended m number (line ∷ lines) rest = Err (BadLine (number + 1))

-- What lines say that stand behind the first one: the memory that they make of a memory, or the first fault.
unfoldable pub rows_so : Memory → ℕ → ℕ → List (List ℕ) → List ℕ → Result Memory DumpFault
rows_so m number from [] rest = Err Truncated
rows_so m number from (line ∷ lines) rest =
    if bytes_eq line last_line then ended m number lines rest
    else (row_so m number from line into (λ row. rows_so (with_bytes m row.address row.bytes) (number + 1) (row.address + 1) lines rest))

-- what a text says that stands behind the first line
abbrev pub behind_so : Memory → ℕ → ℕ → List ℕ → Result Memory DumpFault
behind_so m number from text = rows_so m number from (lines_of text).whole (lines_of text).rest

-- what all lines say
unfoldable pub dump_so : List (List ℕ) → List ℕ → Result Memory DumpFault
dump_so [] rest = Err Truncated
dump_so (line ∷ lines) rest =
    ok_or (header_of line) BadHeader into (λ header. rows_so (blank header.top header.fill) 2 0 lines rest)

-- The memory of which the bytes are the text, or the first fault.
unfoldable pub read_so : List ℕ → Result Memory DumpFault
read_so bytes = dump_so (lines_of bytes).whole (lines_of bytes).rest

-- the fault that an error reports, or none where memory ran out
abbrev pub reported : DumpFault → Option DumpFault
reported OutOfMemory = None
reported fault = Some fault
