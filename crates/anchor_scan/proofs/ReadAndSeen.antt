-- What is read of RAM below 1 MiB, and what is seen there.
use Rattle.std.proofs.Common.{◌≡◌, ℕ, ◌+◌, ◌<◌, ◌≤◌, inl, inr, List, Some, slice_index, arith, ap, sym, ◌∙◌}
use Rattle.std.specs.Option.{option_map}
use Rattle.vt_bytes.specs.Numbers.{le}
use Rattle.vt_bytes.specs.Parts.{part}
use Rattle.vt_bytes.specs.View.{bytes_in, number_in}
use Rattle.vt_bytes.specs.Memory.{Memory, IsRamRange, bytes_at, seen}
use Rattle.vt_bytes.proofs.Bytes.{part-bytes_at, bytes_at-one, index-bytes_at}
use Rattle.vt_bytes.proofs.Views.{bytes_in-part}
use Rattle.vt_bytes.proofs.Seen.{bytes_in-seen}

-- what ends below 1 MiB, where anchors may stand, is RAM
pub low_ram : (top address count : ℕ) → 0xE0000 ≤ address → address + count ≤ 0x100000 → IsRamRange top address count
low_ram top address count from within i below = inr (inl (omega arith, omega arith))

-- the bytes that are read are seen
pub read_seen : (m : Memory) (address count : ℕ) (bytes : List ℕ) → IsRamRange m.top address count → bytes ≡ bytes_at m address count
    → bytes_in (seen m) address count ≡ Some bytes
read_seen m address count bytes ram is = bytes_in-seen m address count ram ∙ ap Some (sym is)

-- a mark stands where its bytes are read, and nowhere else
pub marked : (m : Memory) (address count : ℕ) (bytes mark : List ℕ) → IsRamRange m.top address count → bytes ≡ bytes_at m address count
    → bytes ≡ mark → bytes_in (seen m) address count ≡ Some mark
marked m address count bytes mark ram is equal = read_seen m address count bytes ram is ∙ ap Some equal

pub mark_read : (m : Memory) (address count : ℕ) (bytes mark : List ℕ) → IsRamRange m.top address count → bytes ≡ bytes_at m address count
    → bytes_in (seen m) address count ≡ Some mark → bytes ≡ mark
mark_read m address count bytes mark ram is has =
    let there = read_seen m address count bytes ram is in
    cc

-- the number of so many bytes at a place of those that are read
pub number_there : (m : Memory) (address count there place width number : ℕ) (bytes : List ℕ) → IsRamRange m.top address count
    → bytes ≡ bytes_at m address count → there ≡ address + place → place + width ≤ count → number ≡ le (part bytes place width)
    → number_in (seen m) there width ≡ Some number
number_there m address count there place width number bytes ram is at within value =
    let shown = read_seen m address count bytes ram is in
    ap (λ a. number_in (seen m) a width) at ∙ ap (option_map le) (bytes_in-part (seen m) address count bytes place width shown within)
    ∙ ap Some (sym value)

-- the number of one byte is that byte
pub one_byte : (m : Memory) (address count place : ℕ) (bytes : List ℕ) → bytes ≡ bytes_at m address count → place < count
    → slice_index bytes place ≡ le (part bytes place 1)
one_byte m address count place bytes is within =
    let byte = ap (λ all. slice_index all place) is ∙ index-bytes_at m address count place within in
    let number = ap (λ all. le (part all place 1)) is ∙ ap le (part-bytes_at m address count place 1 (omega arith) ∙ bytes_at-one m (address + place)) in
    omega (arith, byte, number)
