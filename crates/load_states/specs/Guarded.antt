-- The places of memory that the firmware works in, and those that no other processor writes while it does.
use Rattle.std.specs.Prelude.{ℕ, Bool, not, ◌&&◌, ◌||◌, [], ◌∷◌, nat_lt, nat_le, if◌then◌else◌}
use Rattle.vt_outside.specs.Placement.{high_zone}
use Rattle.vt_bytes.specs.Memory.{Memory, bios_end, bios_start, is_ram, with_bytes}

-- the work range of the firmware: 16 bytes for the descriptor of a transfer, and the 4,096 bytes of a buffer that it reads and writes through
abbrev pub descriptor_at : ℕ
descriptor_at = 0x7000

abbrev pub buffer_at : ℕ
buffer_at = 0x8000

abbrev pub buffer_size : ℕ
buffer_size = 0x1000

abbrev pub is_work : ℕ → Bool
is_work address =
    (nat_le descriptor_at address && nat_lt address 0x7010) || (nat_le buffer_at address && nat_lt address 0x9000)

-- The places that are guarded: the work range, the BIOS area, in which the F segment lies, and high memory.
abbrev pub is_guarded : ℕ → ℕ → Bool
is_guarded top address =
    is_work address || (nat_le bios_start address && nat_lt address bios_end) || (nat_le (high_zone top).start address && nat_lt address top)

-- high memory, in which files are placed; and the F segment
abbrev pub is_high : ℕ → ℕ → Bool
is_high top address = nat_le (high_zone top).start address && nat_lt address top

-- another processor writes a byte: nothing happens where the address is no RAM, or is guarded
abbrev pub written_by_other : ℕ → ℕ → Memory → Memory
written_by_other address byte m =
    if is_ram m.top address && not (is_guarded m.top address) then with_bytes m address (byte ∷ []) else m
