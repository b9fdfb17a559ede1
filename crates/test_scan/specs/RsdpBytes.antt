-- The bytes of an RSDP (ACPI 6.5, 5.2.5.3).
use Rattle.std.specs.Prelude.{◌≡◌, ◌≤◌, ℕ, List, take}
use Rattle.vt_bytes.specs.Numbers.{le, byte_sum}
use Rattle.vt_bytes.specs.Parts.{part}

-- They tell revision 2 or a later one, and sum to zero, the first 20 and all.
pub record HasRevisionAndSums (bytes : List ℕ) : Type 0 where
  pub revision : 2 ≤ le (part bytes 15 1)
  pub first : byte_sum (take 20 bytes) ≡ 0
  pub all : byte_sum bytes ≡ 0
