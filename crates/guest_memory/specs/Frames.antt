-- Frames of 4,096 bytes: which addresses each has, which frames a range of addresses meets, and which hold the fill byte alone.
use Rattle.std.specs.Prelude.{◌≡◌, ℕ, ◌+◌, ◌-◌, ◌*◌, ◌<◌, ◌≤◌, Bool, ◌&&◌, nat_lt, if◌then◌else◌}
use Rattle.vt_bytes.specs.Memory.{Memory, IsRam, high_start, at}

-- how many frames there are: 256 in the first MiB, and then 8,192 in the 32 MiB that end at the top
abbrev pub frame_limit : ℕ
frame_limit = 8448

-- the address at which a frame begins
abbrev pub frame_start : ℕ → ℕ → ℕ
frame_start top frame = if nat_lt frame 256 then frame * 4096 else high_start top + (frame - 256) * 4096

-- an address lies in a frame
abbrev pub IsInFrame : ℕ → ℕ → ℕ → Type 0
IsInFrame top frame address = (frame_start top frame ≤ address) × (address < frame_start top frame + 4096)

-- whether a frame has one of so many addresses from an address on; none has where they are none
unfoldable pub meets : ℕ → ℕ → ℕ → ℕ → Bool
meets top address count frame =
    nat_lt 0 count && nat_lt address (frame_start top frame + 4096) && nat_lt (frame_start top frame) (address + count)

-- each byte of RAM in a frame is the fill byte
abbrev pub HoldsFill : Memory → ℕ → Type 0
HoldsFill m frame =
    (i : ℕ) → i < 4096 → IsRam m.top (frame_start m.top frame + i) → at m (frame_start m.top frame + i) ≡ m.fill
