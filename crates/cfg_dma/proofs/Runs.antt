-- Runs of bytes in memory, piece by piece.
use Rattle.std.proofs.Common.{◌≡◌, ℕ, ◌+◌, ◌≤◌, ◌<◌, List, ◌++◌, length, replicate, arith, sym, ap, subst, ◌∙◌, length-append}
use Rattle.std.proofs.lemmas.List.{length-replicate, replicate-append-replicate}
use Rattle.vt_bytes.specs.Memory.{Memory, IsTop, IsRam, IsRamRange, IsMemory, with_bytes, bytes_at}
use Rattle.vt_bytes.proofs.Memories.{with_both}
use Rattle.vt_bytes.proofs.Bytes.{bytes_at-parts, length-bytes_at}
use Rattle.cfg_directory.specs.declared.item.Item.{Item}
use Rattle.cfg_directory.specs.Items.{AreDistinct, with_bytes_at}
use Rattle.cfg_dma.specs.Device.{FitsIn}
use Rattle.cfg_dma.proofs.Written.{fit_from, written_twice, fits_written}

-- an address of RAM is below 4 GiB
pub ram_below : (top address : ℕ) → IsRam top address → IsTop top → address < 0xC0000000
ram_below top address ram lawful = grind arith

-- bytes, and others behind them
pub one_more : (m now after : Memory) (address : ℕ) (front back : List ℕ) (k n : ℕ) → IsMemory m → IsRamRange m.top address n
    → length front ≡ k → k + length back ≤ n → now ≡ with_bytes m address front → after ≡ with_bytes now (address + k) back
    → after ≡ with_bytes m address (front ++ back)
one_more m now after address front back k n lawful ram size within so_far more =
    more ∙ ap (λ before. with_bytes before (address + k) back) so_far
    ∙ ap (λ at. with_bytes (with_bytes m address front) (address + at) back) (sym size)
    ∙ with_both m address front back lawful (λ i below. ram i (omega (arith, length-append front back)))

-- zeros, and more of them behind
pub zeros_more : (m now after : Memory) (address k n count : ℕ) → IsMemory m → IsRamRange m.top address count → k + n ≤ count
    → now ≡ with_bytes m address (replicate k 0) → after ≡ with_bytes now (address + k) (replicate n 0)
    → after ≡ with_bytes m address (replicate (k + n) 0)
zeros_more m now after address k n count lawful ram within so_far more =
    one_more m now after address (replicate k 0) (replicate n 0) k count lawful ram (length-replicate {A = ℕ} k 0)
    (omega (arith, length-replicate {A = ℕ} n 0)) so_far more
    ∙ ap (with_bytes m address) (replicate-append-replicate k n 0)

-- a file into which bytes of memory were written, and more of them behind
pub written_more : (items now after : List Item) (m : Memory) (select offset address k n : ℕ) (part : List ℕ) → part ≡ bytes_at m (address + k) n
    → now ≡ with_bytes_at items select offset (bytes_at m address k) → after ≡ with_bytes_at now select (offset + k) part
    → after ≡ with_bytes_at items select offset (bytes_at m address (k + n))
written_more items now after m select offset address k n part read so_far more =
    let front = bytes_at m address k in
    let at : offset + k ≡ offset + length front = omega (arith, length-bytes_at m address k) in
    more
    ∙ ap (λ (is : List Item). with_bytes_at is select (offset + k) part) so_far
    ∙ ap (λ place. with_bytes_at (with_bytes_at items select offset front) select place part) at
    ∙ ap (λ back. with_bytes_at (with_bytes_at items select offset front) select (offset + length front) back) read
    ∙ written_twice items select offset front (bytes_at m (address + k) n)
    ∙ ap (with_bytes_at items select offset) (sym (bytes_at-parts m address k n))

-- what is left to write fits still
pub fits_left : (items now : List Item) (m : Memory) (select offset address k count : ℕ) → AreDistinct items → FitsIn items select (offset + count)
    → k ≤ count → now ≡ with_bytes_at items select offset (bytes_at m address k) → FitsIn now select (offset + count)
fits_left items now m select offset address k count distinct fits within so_far =
    let front = bytes_at m address k in
    subst (λ (is : List Item). FitsIn is select (offset + count)) (sym so_far)
    (fits_written items select offset (offset + count) front
    (fit_from items select offset count front distinct fits (omega (arith, length-bytes_at m address k))) fits)
