-- The sizes of the pieces that a firmware reads through its buffer.
use Rattle.std.proofs.Common.{◌≡◌, ℕ, suc, ◌+◌, ◌-◌, ◌*◌, ◌/◌, ◌%◌, ◌<◌, ◌≤◌, arith, subst}
use Rattle.load_states.specs.Guarded.{buffer_size}
use Rattle.load_states.specs.Steps.{asked}
use Rattle.load_states.specs.Moves.{pieces_of}

-- A piece that is taken behind others, of so many units of a size.
pub record IsPiece (unit size taken count : ℕ) : Type 0 where
  pub before : unit * (taken / unit) ≡ taken
  pub now : unit * (count / unit) ≡ count
  pub both : (taken + count) / unit ≡ taken / unit + count / unit
  pub within : taken / unit + count / unit ≤ size / unit

-- of entries of the directory
pub entries_piece : (size taken pieces number : ℕ) → taken ≡ buffer_size * pieces → size ≡ 64 * number → taken < size
    → IsPiece 64 size taken (asked (size - taken))
entries_piece size taken pieces number is whole left =
    record { before = omega arith; now = omega arith; both = omega arith; within = omega arith }

-- of commands of the script
pub commands_piece : (size taken pieces : ℕ) → taken ≡ buffer_size * pieces → size % 128 ≡ 0 → taken < size
    → IsPiece 128 size taken (asked (size - taken))
commands_piece size taken pieces is whole left =
    record { before = omega arith; now = omega arith; both = omega arith; within = omega arith }

-- the piece that takes all is the last one
pub last_piece : (size taken pieces : ℕ) → taken ≡ buffer_size * pieces → taken < size → taken + asked (size - taken) ≡ size
    → suc pieces ≡ pieces_of size
last_piece size taken pieces is left all = omega arith

-- Another piece is as large as the buffer, and leaves some.
pub record IsAnother (size taken pieces : ℕ) : Type 0 where
  pub taken_is : taken + asked (size - taken) ≡ buffer_size * suc pieces
  pub some_left : taken + asked (size - taken) < size

-- the piece that doesn't take all is followed by another
pub another_piece : (size taken pieces : ℕ) → taken ≡ buffer_size * pieces → taken < size → (taken + asked (size - taken) ≡ size → ⊥)
    → IsAnother size taken pieces
another_piece size taken pieces is left more = record { taken_is = omega arith; some_left = omega arith }

-- a device's offset behind a piece
pub offset_after : (start size taken pieces : ℕ) → taken ≡ buffer_size * pieces
    → start + buffer_size * pieces + asked (size - buffer_size * pieces) ≡ start + (taken + asked (size - taken))
offset_after start size taken pieces is =
    subst (λ (t : ℕ). start + t + asked (size - t) ≡ start + (taken + asked (size - taken))) is (omega arith)
