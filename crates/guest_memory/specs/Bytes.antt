-- What a memory holds is bytes.
use Rattle.std.specs.Prelude.{ℕ, ◌<◌}
use Rattle.vt_bytes.specs.Memory.{Memory, IsRam, at}

-- The fill byte of a memory, and its byte at each address of RAM, are bytes.
pub record HoldsBytes (m : Memory) : Type 0 where
  pub fill : m.fill < 256
  pub each : (address : ℕ) → IsRam m.top address → at m address < 256
