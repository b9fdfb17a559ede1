-- The bytes of a UUID as a guest finds them (DMTF DSP0134, version 3.0.0, 7.2.1).
use Rattle.std.specs.Prelude.{ℕ, List}
use Rattle.std.specs.Int.{w128, to_be_bytes}
use Rattle.uuid.specs.Parts.{swap_fields}

-- the first three fields are little-endian, the others stand as in the text
abbrev pub uuid_bytes : ℕ → List ℕ
uuid_bytes uuid = swap_fields (to_be_bytes w128 uuid)
