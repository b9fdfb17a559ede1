-- What the parts of the block own and lend. The block is a row of places of 4,096 bytes.
use Rattle.std.specs.Prelude.{ℕ, ◌+◌, ◌*◌, ◌^◌, List, [], ◌∷◌, length, Option, Some, None}
use Rattle.std.specs.Borrow.{Array, u8}
use base.Fraction.{full_share}
use base.Fml.{Lft, Fml, ftrue, ffalse, fsep, flt, froom}
use mir.Syntax.{Ty, ty_array}
use mir.Raw.{raw}
use denote.RattleType.{RattleType}
use denote.Memory.{lone, part_at, shared_of}
use denote.Sharing.{nothing, said, beside}
use denote.RawPtr.{Ptr, block_ptr, null_ptr}

-- what lies in a filled place
abbrev pub Frame : RattleType
Frame = Array u8 4096

-- the place at byte `at` of a block: its bytes, or room for them
abbrev pub place_owns : ℕ → ℕ → Option (List ℕ) → Fml
place_owns block at None = froom (raw (lone Frame.mir)) block at
place_owns block at (Some bytes) = part_at Frame full_share bytes block at

-- places from byte `at` on, one behind the other
abbrev pub row_owns : ℕ → ℕ → List (Option (List ℕ)) → Fml
row_owns block at [] = ftrue
row_owns block at (slot ∷ slots) = fsep (place_owns block at slot) (row_owns block (at + 4096) slots)

-- a shared loan of a place reaches its bytes, where it has any
abbrev pub place_lends : ℕ → ℕ → Option (List ℕ) → Lft → Fml
place_lends block at None = nothing
place_lends block at (Some bytes) = shared_of Frame bytes block at

abbrev pub row_lends : ℕ → ℕ → List (Option (List ℕ)) → Lft → Fml
row_lends block at [] = nothing
row_lends block at (slot ∷ slots) = beside (place_lends block at slot) (row_lends block (at + 4096) slots)

-- The places take fewer than 2 ^ 63 bytes, so each is reached from the first by an offset that fits a pointer.
abbrev pub is_short : List (Option (List ℕ)) → Fml
is_short slots = flt (length slots * 4096) (2 ^ 63)

-- the block behind a pointer. None is behind null
abbrev pub block_owns : Ptr → List (Option (List ℕ)) → Fml
block_owns null_ptr slots = ffalse
block_owns (block_ptr block at) slots = fsep (is_short slots) (row_owns block at slots)

abbrev pub block_lends : Ptr → List (Option (List ℕ)) → Lft → Fml
block_lends null_ptr slots = said ffalse
block_lends (block_ptr block at) slots = beside (said (is_short slots)) (row_lends block at slots)

-- what an allocator wants to see before it takes a block of `count` places back
abbrev pub claim_owns : (Ty → Ptr → Fml) → Ptr → ℕ → Fml
claim_owns token first count = token (raw (ty_array (lone Frame.mir) count)) first
