-- The memory that a store holds, and what it is once bytes of one frame were lent.
use Rattle.std.proofs.Common.{◌≡◌, ◌+◌, ◌*◌, ◌-◌, ◌/◌, ◌%◌, ◌<◌, ◌≤◌, ℕ, inl, inr, List, length, map, slice_set, Some, get_or, None, refl, arith, ap}
use Rattle.std.proofs.Common.{subst, sym, ◌∙◌}
use Rattle.std.specs.List.{refill, length_refill}
use Rattle.vt_bytes.specs.Parts.{part, put_at}
use Rattle.vt_bytes.specs.Memory.{Memory, IsTop, IsRam, IsRamRange, IsMemory, at, bytes_at, with_bytes}
use Rattle.vt_bytes.proofs.Bytes.{length-bytes_at, index-bytes_at}
use Rattle.vt_bytes.proofs.Memories.{byte_with, lawful_with, others_with, same_memory}
use Rattle.std.proofs.lemmas.Bool.{cases_lt}
use Rattle.raw_frames.specs.Block.{AreFrames}
use Rattle.guest_memory.specs.Store.{Stored, IsPlaceOf, filled_of, memory_of, held_memory, in_frame, is_filled, with_part}
use Rattle.guest_memory.specs.Frames.{HoldsFill, frame_start}
use Rattle.guest_memory.specs.Touched.{HeldMemory, IsHeld, touched_at, with_lent}
use Rattle.guest_memory.proofs.Held.{at_held, frame_place, part_held, put_held, place_within, same_room}
use Rattle.guest_memory.proofs.Laid.{blank_byte, part_in_frame, put_in_frame, length-all_bytes}
use Rattle.guest_memory.proofs.StoreFlags.{empty_at}
use Rattle.guest_memory.proofs.Runs.{none_put}
use Rattle.guest_memory.proofs.Touches.{flag_is, length_flags, touched_in_frame, touched_nothing}

-- no bytes of it
pub lent_none : (held : HeldMemory) (address count : ℕ) (left : List ℕ) → count ≡ 0 → held ≡ with_lent held address count left
lent_none held address count left none =
    let memory : held.memory ≡ with_bytes held.memory address (refill count (bytes_at held.memory address count) left) =
    none_put held.memory address ∙ ap (λ n. with_bytes held.memory address (refill n (bytes_at held.memory address n) left)) (sym none) in
    let touched : held.touched ≡ touched_at held.memory.top address count held.touched =
    sym (ap (λ n. touched_at held.memory.top address n held.touched) none ∙ touched_nothing held.memory.top address held.touched) in
    λ j. record { memory = memory j; touched = touched j }

-- some bytes
pub lent_part : (top : ℕ) (s : Stored) (held : HeldMemory) (a n place : ℕ) (left : List ℕ) → held_memory top s ≡ held → IsTop top → AreFrames s.frames
    → IsRam top a → IsPlaceOf top a place → 0 < n → a % 4096 + n ≤ 4096
    → held_memory top (with_part s (place / 4096) (place % 4096) n left) ≡ with_lent held a n left
lent_part top s held a n place left is lawful are ram at some frame =
    let same = same_room top a place lawful ram at in
    let within = place_within top a place lawful ram at in
    let fits : place % 4096 + n ≤ 4096 = omega (arith, same, frame) in
    let old = in_frame s (place / 4096) in
    let mid = part old (place % 4096) n in
    let size = length-all_bytes s.fill s.frames are in
    let is_memory : memory_of top (filled_of s) ≡ held.memory = ap (λ (h : HeldMemory). h.memory) is in
    let lent : mid ≡ bytes_at held.memory a n =
    part_in_frame s.fill s.frames place n are within fits ∙ part_held top (filled_of s) held.memory a n place is_memory lawful size ram at frame in
    let count : length (refill n mid left) ≡ n = sym (length_refill n mid left (sym (ap length lent ∙ length-bytes_at held.memory a n))) in
    let memory : memory_of top (filled_of (with_part s (place / 4096) (place % 4096) n left)) ≡ with_bytes held.memory a
    (refill n (bytes_at held.memory a n) left) =
    ap (λ (bytes : List ℕ). memory_of top (record { fill = s.fill; bytes = bytes }))
    (put_in_frame s.fill s.frames place (refill n mid left) are within (omega (arith, count, fits)))
    ∙ put_held top (filled_of s) held.memory a place (refill n mid left) is_memory lawful size ram at (omega (arith, count, frame))
    ∙ ap (λ bytes. with_bytes held.memory a (refill n bytes left)) lent in
    let touched : map is_filled (slice_set s.frames (place / 4096) (Some (put_at old (place % 4096) (refill n mid left)))) ≡ touched_at
    held.memory.top a n held.touched =
    touched_in_frame top a n place s.frames (put_at old (place % 4096) (refill n mid left)) lawful ram at some frame (omega (arith, are.count, within))
    ∙ ap (λ (h : HeldMemory). touched_at h.memory.top a n h.touched) is in
    λ j. record { memory = memory j; touched = touched j }

-- the bytes that a range has, put there again, change nothing
pub put_again : (m : Memory) (address count : ℕ) → IsMemory m → IsRamRange m.top address count → with_bytes m address (bytes_at m address count) ≡ m
put_again m address count lawful ram =
    let bytes = bytes_at m address count in
    let size = length-bytes_at m address count in
    sym (same_memory m (with_bytes m address bytes) lawful (lawful_with m address bytes lawful) (record {
      top = refl;
      fill = refl;
      bytes = λ a is. elim (cases_lt a address) as (λ _. at (with_bytes m address bytes) a ≡ at m a) [
        | inl before ↦ others_with m address bytes a lawful (inl before)
        | inr from ↦ elim (cases_lt a (address + count)) as (λ _. at (with_bytes m address bytes) a ≡ at m a) [
          | inl within ↦
              let here : address + (a - address) ≡ a = omega (arith, from) in
              ap (at (with_bytes m address bytes)) (sym here)
              ∙ byte_with m address bytes (a - address) lawful (λ i below. ram i (omega (arith, size, below))) (omega (arith, size, within, from))
              ∙ index-bytes_at m address count (a - address) (omega (arith, within, from)) ∙ ap (at m) here
          | inr past ↦ others_with m address bytes a lawful (inr (omega (arith, size, past)))
        ]
      ];
    }))

-- a frame that isn't touched holds the fill byte alone
pub holds_fill : (top : ℕ) (s : Stored) (frame : ℕ) → IsTop top → AreFrames s.frames → frame < 8448 → get_or s.frames frame None ≡ None
    → HoldsFill (memory_of top (filled_of s)) frame
holds_fill top s frame lawful are below empty i within ram =
    let place : frame * 4096 + i ≡ 4096 * frame + i = omega arith in
    at_held top (filled_of s) (frame_start top frame + i) (4096 * frame + i) lawful (length-all_bytes s.fill s.frames are) ram
    (subst (λ p. IsPlaceOf top (frame_start top frame + i) p) place (frame_place top frame i lawful within))
    ∙ blank_byte s.fill s.frames frame i are below within empty

pub is_held_memory : (top : ℕ) (s : Stored) → IsTop top → AreFrames s.frames → IsHeld (held_memory top s)
is_held_memory top s lawful are = record {
  count = length_flags s.frames ∙ are.count;
  blank = λ frame below untouched. holds_fill top s frame lawful are below (empty_at s.frames frame (sym (flag_is s.frames frame) ∙ untouched));
}
