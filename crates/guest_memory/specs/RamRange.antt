-- The test of whether each of so many bytes from an address on is RAM.
use Rattle.std.specs.Prelude.{ℕ, zero, suc, ◌+◌, ◌≤◌, ◌⊎◌, Bool, true, ◌&&◌}
use Rattle.vt_bytes.specs.declared.memory.AddressRange.{AddressRange}
use Rattle.vt_bytes.specs.Memory.{bios_end, bios_start, high_start, is_ram}

unfoldable pub is_ram_range : ℕ → ℕ → ℕ → Bool
is_ram_range top address zero = true
is_ram_range top address (suc count) = is_ram top address && is_ram_range top (address + 1) count

-- so many bytes from an address on lie in a range
abbrev pub IsWithin : AddressRange → ℕ → ℕ → Type 0
IsWithin range address count = (range.start ≤ address) × (address + count ≤ range.end)

-- they lie in one of the ranges of the RAM map
abbrev pub LieInARange : ℕ → ℕ → ℕ → Type 0
LieInARange top address count =
    IsWithin (record { start = 0; end = 0xA0000 }) address count ⊎ (IsWithin (record { start = bios_start; end = bios_end }) address count
    ⊎ IsWithin (record { start = high_start top; end = top }) address count)
