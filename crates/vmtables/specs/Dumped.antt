-- The text of a memory, as a dump has it.
use Rattle.std.specs.Prelude.{◌≡◌, ℕ, List}
use Rattle.vt_bytes.specs.Memory.{Memory, IsMemory}
use Rattle.guest_memory.specs.Bytes.{HoldsBytes}
use Rattle.memory_dump.specs.Dump.{dump}

-- The text is the dump of this memory, and so of no other.
pub record IsDumpOf (m : Memory) (text : List ℕ) : Type 0 where
  pub lawful : IsMemory m
  pub holds : HoldsBytes m
  pub text_is : text ≡ dump m
