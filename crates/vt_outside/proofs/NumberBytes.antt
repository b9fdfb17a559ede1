-- Each byte of a number is a byte.
use Rattle.std.proofs.Common.{ℕ, zero, suc, ◌<◌, arith}
use Rattle.std.specs.Int.{byte_at, bytes_high_first}
use Rattle.std.specs.List.{All}

pub byte_small : (k n : ℕ) → byte_at k n < 256
byte_small zero n = omega arith
byte_small (suc k) n = omega arith

pub bytes_small : (k n : ℕ) → All (λ b. b < 256) (bytes_high_first k n)
bytes_small zero n i d within = absurd (omega arith)
bytes_small (suc k) n zero d within = byte_small k n
bytes_small (suc k) n (suc i) d within = bytes_small k n i d (omega arith)
