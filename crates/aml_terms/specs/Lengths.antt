-- Package lengths and integers, in each of their spellings (ACPI 6.5, 20.2.3 and 20.2.4).
use Rattle.std.specs.Prelude.{◌≡◌, ℕ, ◌+◌, ◌*◌, ◌<◌, ◌≤◌, List, [], ◌∷◌, length}
use Rattle.vt_bytes.specs.Numbers.{le}
use Rattle.aml_terms.specs.declared.opcode.Opcode.TheVariants.{Integer}
use Rattle.aml_terms.specs.Opcodes.{opcode_of}

-- A package length: one byte below 0x40; or a lead byte whose two upper bits tell how many follow it (so 1 to 3, where it is a byte),
-- whose next two bits are 0, and whose low four bits come first.
pub data IsLength (total : ℕ) (bytes : List ℕ) : Type 0 where
  short : total < 0x40 → bytes ≡ total ∷ [] → IsLength total bytes
  long : (low : ℕ) (more : List ℕ) → low < 16 → 1 ≤ length more → total ≡ low + 16 * le more → bytes ≡ (64 * length more + low) ∷ more
      → IsLength total bytes

-- An integer: 0 or 1 as a byte of its own; or an opcode and as many bytes as it announces, low byte first.
pub data IsInteger (number : ℕ) (bytes : List ℕ) : Type 0 where
  constant : number ≤ 1 → bytes ≡ number ∷ [] → IsInteger number bytes
  wide : (opcode : ℕ) (digits : List ℕ) → opcode_of opcode ≡ Integer (length digits) → number ≡ le digits → bytes ≡ opcode ∷ digits
      → IsInteger number bytes
