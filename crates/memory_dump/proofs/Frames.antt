-- The lines of frames, each of 256 rows, frame by frame.
use Rattle.std.proofs.Common.{◌≡◌, ◌==◌, ℕ, zero, suc, ◌+◌, ◌*◌, ◌-◌, ◌/◌, ◌<◌, true, List, [], ◌++◌, get_or, refl, ap, sym, subst, ◌∙◌, arith, add-zero}
use Rattle.std.proofs.lemmas.Bool.{and_parts, and_from, eq-eqb}
use Rattle.std.proofs.lemmas.List.Folds.{list_all-append}
use Rattle.std.specs.List.{flat_map, list_all, range_with_len}
use Rattle.vt_bytes.specs.declared.memory.AddressRange.{AddressRange}
use Rattle.vt_bytes.specs.Memory.{Memory, IsTop, IsRam, IsRamRange, at, bytes_at, ram_ranges}
use Rattle.vt_bytes.proofs.Bytes.{bytes_at-parts}
use Rattle.guest_memory.specs.Frames.{HoldsFill, frame_start}
use Rattle.memory_dump.specs.Dump.{range_text, rows_text}
use Rattle.vt_outside.specs.Stream.{SinkSeen, Took, TookFront}
use Rattle.memory_dump.proofs.Rows.{line_at, line_at-filled, rows_text-split, rows_text-front}
use Rattle.vt_outside.proofs.Taken.{took_nothing, took_then, front_then, front_more}

-- rows counted from a later one on
lines_from : (m : Memory) (start n j d : ℕ)
    → flat_map (line_at m start) (range_with_len (n + j) d) ≡ flat_map (line_at m (start + 16 * n)) (range_with_len j d)
lines_from m start n j zero = refl
lines_from m start n j (suc d) =
    let address : start + 16 * (n + j) ≡ start + 16 * n + 16 * j = omega arith in
    let next : n + j + 1 ≡ n + (j + 1) = omega arith in
    rw (address, next) (ap (λ lines. line_at m (start + 16 * n) j ++ lines) (lines_from m start n (j + 1) d))

-- the lines of some rows, and then of those behind them
pub rows_text-parts : (m : Memory) (start n d : ℕ) → rows_text m start (n + d) ≡ rows_text m start n ++ rows_text m (start + 16 * n) d
unfolding rows_text
rows_text-parts m start n d =
    let first : n ≡ n + 0 = omega arith in
    rows_text-split m start n d
    ∙ ap (λ (lines : List ℕ). rows_text m start n ++ lines) (ap (λ (k : ℕ). flat_map (line_at m start) (range_with_len k d)) first ∙ lines_from m start n 0 d)

-- rows of fill bytes have no lines
pub rows_text-filled : (m : Memory) (start n : ℕ) → list_all (λ byte. byte == m.fill) (bytes_at m start (16 * n)) ≡ true → rows_text m start n ≡ []
unfolding rows_text
rows_text-filled m start zero all = refl
rows_text-filled m start (suc n) all =
    let size : 16 * suc n ≡ 16 + 16 * n = omega arith in
    let here : start ≡ start + 16 * 0 = omega arith in
    let both = and_parts _ _ (sym (list_all-append (λ byte. byte == m.fill) (bytes_at m start 16) (bytes_at m (start + 16) (16 * n)))
    ∙ ap (list_all (λ byte. byte == m.fill)) (sym (bytes_at-parts m start 16 (16 * n)))
    ∙ ap (λ (count : ℕ). list_all (λ byte. byte == m.fill) (bytes_at m start count)) (sym size) ∙ all) in
    let first : line_at m start 0 ≡ [] =
    line_at-filled m start 0 m.fill (bytes_at m start 16) true (ap (λ (a : ℕ). bytes_at m a 16) here) refl (sym both.0) refl in
    let one : rows_text m start 1 ≡ [] = ap (λ (line : List ℕ). line ++ []) first in
    let rows : suc n ≡ 1 + n = omega arith in
    ap (rows_text m start) rows ∙ rows_text-parts m start 1 n ∙ ap (λ (lines : List ℕ). lines ++ rows_text m (start + 16) n) one
    ∙ rows_text-filled m (start + 16) n both.1

-- each range of the RAM map is whole frames
range_frames : (top k : ℕ) (other : AddressRange) → IsTop top → k < 3
    → 256 * (((get_or (ram_ranges top) k other).end - (get_or (ram_ranges top) k other).start) / 4096)
    ≡ ((get_or (ram_ranges top) k other).end - (get_or (ram_ranges top) k other).start) / 16
range_frames top zero other lawful below = refl
range_frames top (suc zero) other lawful below = refl
range_frames top (suc (suc zero)) other lawful below = omega (arith, lawful.at_least)
range_frames top (suc (suc (suc k))) other lawful below = absurd (omega arith)

-- so the lines of its frames are its lines
pub range_text-frames : (m : Memory) (ranges : List AddressRange) (k : ℕ) (other : AddressRange) → IsTop m.top → ranges ≡ ram_ranges m.top → k < 3
    → rows_text m (get_or ranges k other).start (256 * (((get_or ranges k other).end - (get_or ranges k other).start) / 4096))
    ≡ range_text m (get_or ranges k other)
range_text-frames m ranges k other lawful map below = rw map (ap (rows_text m (get_or (ram_ranges m.top) k other).start)
    (range_frames m.top k other lawful below))

-- each of the frames is RAM
pub frame_ram : (top start count k : ℕ) → IsRamRange top start (4096 * count) → k < count → IsRamRange top (start + 4096 * k) 4096
frame_ram top start count k ram below i within =
    let place : start + (4096 * k + i) ≡ start + 4096 * k + i = omega arith in
    subst (IsRam top) place (ram (4096 * k + i) (omega arith))

-- the lines of one more frame
frames_more : (m : Memory) (start k : ℕ) → rows_text m start (256 * (k + 1)) ≡ rows_text m start (256 * k) ++ rows_text m (start + 4096 * k) 256
frames_more m start k =
    let count : 256 * (k + 1) ≡ 256 * k + 256 = omega arith in
    let address : start + 16 * (256 * k) ≡ start + 4096 * k = omega arith in
    ap (rows_text m start) count ∙ rows_text-parts m start (256 * k) 256
    ∙ ap (λ (a : ℕ). rows_text m start (256 * k) ++ rows_text m a 256) address

-- the sink took the lines of one more frame
pub frame_took : (before now after : SinkSeen) (m : Memory) (start k : ℕ) → Took (rows_text m start (256 * k)) before now
    → Took (rows_text m (start + 4096 * k) 256) now after → Took (rows_text m start (256 * (k + 1))) before after
frame_took before now after m start k so_far took =
    subst (λ t. Took t before after) (sym (frames_more m start k))
    (took_then before now after (rows_text m start (256 * k)) (rows_text m (start + 4096 * k) 256) so_far took)

-- the frame had no lines
pub frame_passed : (before now : SinkSeen) (m : Memory) (start k : ℕ) → Took (rows_text m start (256 * k)) before now
    → rows_text m (start + 4096 * k) 256 ≡ [] → Took (rows_text m start (256 * (k + 1))) before now
frame_passed before now m start k so_far none =
    frame_took before now now m start k so_far (subst (λ t. Took t now now) (sym none) (took_nothing now))

-- bytes of a memory each of which is the fill byte
pub all_fill : (m : Memory) (a n : ℕ) → ((i : ℕ) → i < n → at m (a + i) ≡ m.fill) → list_all (λ byte. byte == m.fill) (bytes_at m a n) ≡ true
unfolding bytes_at
all_fill m a zero holds = refl
all_fill m a (suc n) holds =
    let here : at m a ≡ m.fill = subst (λ b. at m b ≡ m.fill) (add-zero a) (holds 0 (omega arith)) in
    let rest = all_fill m (a + 1) n (λ i below.
    let place : a + suc i ≡ a + 1 + i = omega arith in
    subst (λ b. at m b ≡ m.fill) place (holds (suc i) (omega arith))) in
    and_from _ _ (eq-eqb _ _ here) rest

-- a frame that holds the fill byte alone has no lines
pub frame_untouched : (m : Memory) (top address frame : ℕ) → top ≡ m.top → frame_start top frame ≡ address → IsRamRange m.top address 4096
    → HoldsFill m frame → rows_text m address 256 ≡ []
frame_untouched m top address frame same place ram holds =
    let begins : frame_start m.top frame ≡ address = ap (λ (t : ℕ). frame_start t frame) (sym same) ∙ place in
    let fill : (i : ℕ) → i < 4096 → at m (address + i) ≡ m.fill =
    λ i below. subst (λ a. at m (a + i) ≡ m.fill) begins (holds i below (subst (λ a. IsRam m.top (a + i)) (sym begins) (ram i below))) in
    rows_text-filled m address 256 (all_fill m address 4096 fill)

-- the sink took a front of the lines of one more frame, and so of all of them
pub frame_failed : (before now after : SinkSeen) (m : Memory) (start k count : ℕ) → k < count → Took (rows_text m start (256 * k)) before now
    → TookFront (rows_text m (start + 4096 * k) 256) now after → TookFront (rows_text m start (256 * count)) before after
frame_failed before now after m start k count below so_far took =
    let rest = rows_text-front m start (256 * (k + 1)) (256 * count) (omega arith) in
    let whole = rest.1 ∙ ap (λ (lines : List ℕ). lines ++ rest.0) (frames_more m start k) in
    subst (λ t. TookFront t before after) (sym whole)
    (front_more before after (rows_text m start (256 * k) ++ rows_text m (start + 4096 * k) 256) rest.0
    (front_then before now after (rows_text m start (256 * k)) (rows_text m (start + 4096 * k) 256) so_far took))
