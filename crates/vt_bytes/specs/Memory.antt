-- What a memory is: a top, a fill byte, and a byte at each address that is RAM.
use Rattle.std.specs.Prelude.{◌≡◌, ℕ, zero, suc, ◌+◌, ◌-◌, ◌%◌, ◌<◌, ◌≤◌, ◌⊎◌, Bool, false, ◌&&◌, ◌||◌, List, [], ◌∷◌, length, take, Some, None}
use Rattle.std.specs.Prelude.{slice_index, nat_lt, nat_le, if◌then◌else◌}
use Rattle.vt_bytes.specs.Parts.{put_at}
use Rattle.vt_bytes.specs.View.{View}
use Rattle.vt_bytes.specs.declared.memory.AddressRange.{AddressRange}

-- A top that a machine may have: a multiple of 1 MiB from 64 MiB to 3 GiB.
pub record IsTop (top : ℕ) : Type 0 where
  pub at_least : 0x4000000 ≤ top
  pub at_most : top ≤ 0xC0000000
  pub whole : top % 0x100000 ≡ 0

-- where the upper part of RAM begins: it is the 32 MiB that end at the top
abbrev pub high_start : ℕ → ℕ
high_start top = top - 0x2000000

-- a PC's BIOS area: the 128 KiB below 1 MiB
abbrev pub bios_start : ℕ
bios_start = 0xE0000

abbrev pub bios_end : ℕ
bios_end = 0x100000

-- The RAM map: 640 KiB from address 0 on, the BIOS area, and the 32 MiB that end at the top.
-- What lies between them is no RAM (a PC's video memory and option ROMs).
abbrev pub ram_ranges : ℕ → List AddressRange
ram_ranges top =
    record { start = 0; end = 0xA0000 } ∷ record { start = bios_start; end = bios_end } ∷ record { start = high_start top; end = top } ∷ []

-- an address of a range, and the test of it
abbrev pub IsIn : AddressRange → ℕ → Type 0
IsIn range address = (range.start ≤ address) × (address < range.end)

abbrev pub is_in : AddressRange → ℕ → Bool
is_in range address = nat_le range.start address && nat_lt address range.end

-- an address of one of the ranges, and the test of it
abbrev pub IsInOne : List AddressRange → ℕ → Type 0
IsInOne [] address = ⊥
IsInOne (range ∷ ranges) address = IsIn range address ⊎ IsInOne ranges address

abbrev pub is_in_one : List AddressRange → ℕ → Bool
is_in_one [] address = false
is_in_one (range ∷ ranges) address = is_in range address || is_in_one ranges address

-- what is RAM
abbrev pub IsRam : ℕ → ℕ → Type 0
IsRam top address = IsInOne (ram_ranges top) address

-- whether an address is RAM
abbrev pub is_ram : ℕ → ℕ → Bool
is_ram top address = is_in_one (ram_ranges top) address

-- each of so many bytes from an address on is RAM
abbrev pub IsRamRange : ℕ → ℕ → ℕ → Type 0
IsRamRange top address count = (i : ℕ) → i < count → IsRam top (address + i)

-- A memory: the bytes of each range of the RAM map, in the map's order.
pub record Memory : Type 0 where
  pub top : ℕ
  pub fill : ℕ
  pub parts : List (List ℕ)

-- as many parts as ranges, each as long as its range
abbrev pub Fit : List AddressRange → List (List ℕ) → Type 0
Fit [] [] = Unit {0}
Fit [] (part ∷ parts) = ⊥
Fit (range ∷ ranges) [] = ⊥
Fit (range ∷ ranges) (part ∷ parts) = (length part ≡ range.end - range.start) × Fit ranges parts

-- What each memory keeps: its top is lawful, and its parts are those of the RAM map.
pub record IsMemory (m : Memory) : Type 0 where
  pub top : IsTop m.top
  pub parts : Fit (ram_ranges m.top) m.parts

-- the byte at an address of one of the ranges
unfoldable pub byte_in : List AddressRange → List (List ℕ) → ℕ → ℕ
byte_in [] parts address = 0
byte_in (range ∷ ranges) [] address = 0
byte_in (range ∷ ranges) (part ∷ parts) address =
    if is_in range address then slice_index part (address - range.start) else byte_in ranges parts address

-- the byte at a RAM address
abbrev pub at : Memory → ℕ → ℕ
at m address = byte_in (ram_ranges m.top) m.parts address

-- what is seen of a memory: the byte at each address that is RAM
unfoldable pub seen : Memory → View
seen m address = if is_ram m.top address then Some (at m address) else None

-- so many bytes from an address on
unfoldable pub bytes_at : Memory → ℕ → ℕ → List ℕ
bytes_at m address zero = []
bytes_at m address (suc count) = at m address ∷ bytes_at m (address + 1) count

-- the parts with these bytes from an address on, as far as the range of the address goes
unfoldable pub put_in : List AddressRange → List (List ℕ) → ℕ → List ℕ → List (List ℕ)
put_in [] parts address bytes = parts
put_in (range ∷ ranges) [] address bytes = []
put_in (range ∷ ranges) (part ∷ parts) address bytes =
    if is_in range address then put_at part (address - range.start) (take (range.end - address) bytes) ∷ parts
    else part ∷ put_in ranges parts address bytes

-- The memory with these bytes at that address. Bytes past the end of the address's range are dropped, and an address that is no
-- RAM takes none.
abbrev pub with_bytes : Memory → ℕ → List ℕ → Memory
with_bytes m address bytes = record m { parts = put_in (ram_ranges m.top) m.parts address bytes }

-- The new memory holds these bytes at the address, and is otherwise the old one.
pub record Puts (old new : Memory) (address : ℕ) (bytes : List ℕ) : Type 0 where
  pub top : new.top ≡ old.top
  pub fill : new.fill ≡ old.fill
  pub there : bytes_at new address (length bytes) ≡ bytes
  pub elsewhere : (a : ℕ) → IsRam old.top a → (a < address) ⊎ (address + length bytes ≤ a) → at new a ≡ at old a

-- The two show the same: their tops, their fill bytes and their bytes at RAM addresses agree. How each holds them isn't said.
pub record ShowTheSame (m other : Memory) : Type 0 where
  pub top : other.top ≡ m.top
  pub fill : other.fill ≡ m.fill
  pub bytes : (a : ℕ) → IsRam m.top a → at other a ≡ at m a
