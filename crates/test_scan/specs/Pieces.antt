-- A memory of a few pieces of RAM, the bytes of which stand together in one list.
use Rattle.std.specs.Prelude.{ℕ, ◌-◌, ◌^◌, Bool, ◌&&◌, nat_lt, nat_le, if◌then◌else◌, List, slice_get, drop, find, Option, None}
use Rattle.std.specs.Option.{option_and_then}
use Rattle.vt_bytes.specs.View.{View}
use Rattle.test_scan.specs.declared.pieces.Piece.{Piece}

-- whether an address is one of a piece
abbrev pub is_in : Piece → ℕ → Bool
is_in piece address = nat_le piece.start address && nat_lt (address - piece.start) piece.size

-- the byte at an address that is one of a piece
abbrev pub byte_of : List ℕ → ℕ → Piece → Option ℕ
byte_of bytes address piece = slice_get (drop piece.place bytes) (address - piece.start)

-- What is seen at an address: a byte of the first piece that has it. From 2 ^ 64 on there is none.
abbrev pub seen_in : List Piece → List ℕ → View
seen_in pieces bytes address =
    if nat_lt address (2 ^ 64) then option_and_then (byte_of bytes address) (find (λ piece. is_in piece address) pieces) else None
