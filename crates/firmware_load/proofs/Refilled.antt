-- A frame of the F segment, filled anew.
use Rattle.std.proofs.Common.{◌≡◌, ℕ, ◌+◌, ◌*◌, ◌<◌, ◌≤◌, ◌⊎◌, inl, inr, true, Bool, List, ◌++◌, length, replicate, arith, sym, ap, subst, ◌∙◌}
use Rattle.std.proofs.lemmas.Bool.{cases_lt}
use Rattle.std.proofs.lemmas.List.{length-append, length-replicate, places, replicate-append-replicate}
use Rattle.vt_bytes.specs.Memory.{Memory, IsMemory, IsTop, IsRam, IsRamRange, at, bytes_at, with_bytes}
use Rattle.vt_bytes.proofs.Bytes.{bytes_at-each}
use Rattle.vt_bytes.proofs.Memories.{with_none, with_both}
use Rattle.guest_memory.specs.Frames.{HoldsFill, IsInFrame, frame_start}
use Rattle.guest_memory.specs.Touched.{TouchesOnly, is_touched, touched_at}
use Rattle.guest_memory.proofs.Lent.{put_again}
use Rattle.guest_memory.proofs.Touches.{start_low, start_high, touches_range}
use Rattle.load_states.specs.Steps.{refilled}
use Rattle.firmware_load.specs.Inside.{Nowhere}

-- the F segment is RAM
pub segment_ram : (top address : ℕ) → 0xF0000 ≤ address → address < 0x100000 → IsRam top address
segment_ram top address from below = inr (inl (omega arith, below))

-- a range that holds the fill byte alone is as it would be filled
blank_range : (m : Memory) (address count : ℕ) → IsMemory m → IsRamRange m.top address count → ((i : ℕ) → i < count → at m (address + i) ≡ m.fill)
    → m ≡ with_bytes m address (replicate count m.fill)
blank_range m address count lawful ram blank =
    let bytes = replicate count m.fill in
    let size : length bytes ≡ count = length-replicate {A = ℕ} count m.fill in
    let same : bytes_at m address count ≡ bytes =
    ap (bytes_at m address) (sym size)
    ∙ bytes_at-each m address bytes (λ i below. blank i (omega (arith, size)) ∙ (let fill = m.fill in grind (arith, places))) in
    sym (ap (with_bytes m address) (sym same) ∙ put_again m address count lawful ram)

pub blank_filled : (m : Memory) (frame count : ℕ) → IsMemory m → 240 ≤ frame → frame < 256 → count ≡ 4096 → HoldsFill m frame
    → m ≡ with_bytes m (frame * 4096) (replicate count m.fill)
blank_filled m frame count lawful from below all blank =
    let start : frame_start m.top frame ≡ frame * 4096 = start_low m.top frame below in
    let ram : IsRamRange m.top (frame * 4096) count = λ i within. segment_ram m.top (frame * 4096 + i) (omega arith) (omega arith) in
    blank_range m (frame * 4096) count lawful ram (λ i within.
    subst (λ first. at m (first + i) ≡ m.fill) start (blank i (omega arith) (subst (λ first. IsRam m.top (first + i)) (sym start) (ram i within))))

-- a frame that meets another one's addresses is that frame
same_frame : (top frame other count address : ℕ) → IsTop top → frame < 256 → count ≤ 4096 → IsInFrame top other address
    → frame * 4096 ≤ address → address < frame * 4096 + count → other ≡ frame
same_frame top frame other count address lawful below few inside from past = elim (cases_lt other 256) as (λ _. other ≡ frame) [
  | inl low ↦ let start = start_low top other low in omega (arith, inside.0, inside.1)
  | inr high ↦ let start = start_high top other high in omega (arith, inside.0, inside.1)
]

-- writes into a frame that is touched touch no other
pub touched_again : (top frame count : ℕ) (before now : List Bool) → IsTop top → frame < 256 → count ≤ 4096 → is_touched before frame ≡ true
    → now ≡ touched_at top (frame * 4096) count before → TouchesOnly Nowhere top before now
touched_again top frame count before now lawful below few was is = λ other there.
    elim (touches_range top (frame * 4096) count before other (subst (λ (touched : List Bool). is_touched touched other ≡ true) is there)) as
    (λ _. (is_touched before other ≡ true) ⊎ ((address : ℕ) × IsInFrame top other address × Nowhere address)) [
      | inl before_too ↦ inl before_too
      | inr met ↦ inl (ap (is_touched before) (same_frame top frame other count met.0 lawful below few met.1 met.2.0 met.2.1) ∙ was)
    ]

-- ---- the frames, one after the other

-- so many bytes were filled, and then so many more
pub filled_more : (m now after : Memory) (address k n : ℕ) → IsMemory m → IsRamRange m.top address (k + n)
    → now ≡ with_bytes m address (replicate k m.fill) → after ≡ with_bytes now (address + k) (replicate n now.fill)
    → after ≡ with_bytes m address (replicate (k + n) m.fill)
filled_more m now after address k n lawful ram so_far more =
    let front = replicate {A = ℕ} k m.fill in
    let back = replicate {A = ℕ} n m.fill in
    let size : length front ≡ k = length-replicate {A = ℕ} k m.fill in
    let rest : length back ≡ n = length-replicate {A = ℕ} n m.fill in
    let all : IsRamRange m.top address (length (front ++ back)) = λ i below. ram i (omega (arith, below, size, rest, length-append front back)) in
    more
    ∙ ap (λ (now : Memory). with_bytes now (address + k) (replicate n now.fill)) so_far
    ∙ ap (λ place. with_bytes (with_bytes m address front) (address + place) back) (sym size)
    ∙ with_both m address front back lawful all
    ∙ ap (with_bytes m address) (replicate-append-replicate k n m.fill)

-- none were filled yet
pub filled_none : (m : Memory) (address k : ℕ) → k ≡ 0 → m ≡ with_bytes m address (replicate k m.fill)
filled_none m address k none = sym (ap (λ k. with_bytes m address (replicate k m.fill)) none ∙ with_none m address)

pub all_filled : (m now : Memory) (k : ℕ) → k ≡ 0x10000 → now ≡ with_bytes m 0xF0000 (replicate k m.fill) → now ≡ refilled m
unfolding refilled
all_filled m now k all so_far = so_far ∙ ap (λ k. with_bytes m 0xF0000 (replicate k m.fill)) all
