-- Numbers and sums in bytes. ACPI and SMBIOS tables hold numbers low byte first, and 8-bit sums; fw_cfg's directory
-- and its DMA descriptors hold numbers high byte first.
use Rattle.std.specs.Prelude.{ℕ, zero, suc, ◌+◌, ◌*◌, ◌/◌, ◌%◌, List, [], ◌∷◌, reverse, sum}

-- The number that bytes spell, low byte first: the sum of each byte times 256 to the power of its place.
abbrev pub le : List ℕ → ℕ
le [] = 0
le (byte ∷ bytes) = byte + 256 * le bytes

-- The bytes that spell a number in a field of this many bytes, low byte first.
abbrev pub le_bytes : ℕ → ℕ → List ℕ
le_bytes zero number = []
le_bytes (suc size) number = number % 256 ∷ le_bytes size (number / 256)

-- The same, high byte first.
abbrev pub be : List ℕ → ℕ
be bytes = le (reverse bytes)

abbrev pub be_bytes : ℕ → ℕ → List ℕ
be_bytes size number = reverse (le_bytes size number)

-- The 8-bit sum.
abbrev pub byte_sum : List ℕ → ℕ
byte_sum bytes = sum bytes % 256
