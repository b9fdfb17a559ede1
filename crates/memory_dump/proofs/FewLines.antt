-- A dump has few lines: at most 256 for each frame that is touched, and two more.
use Rattle.std.proofs.Common.{◌≡◌, inl, inr, ℕ, zero, suc, ◌+◌, ◌*◌, ◌-◌, ◌/◌, ◌<◌, ◌≤◌, Bool, true, false, cond, List, [], ◌∷◌, ◌++◌, length, map}
use Rattle.std.proofs.Common.{take, drop, refl, sym, ap, subst, ◌∙◌, arith, length-append}
use Rattle.std.proofs.lemmas.Grind.{flat_map-append}
use Rattle.std.proofs.lemmas.List.{map-append, take-append-drop, drop-drop}
use Rattle.std.proofs.lemmas.List.Sums.{sum_by-append, sum_by-cons}
use Rattle.std.proofs.Math.Seq.{drop-cons}
use Rattle.std.specs.List.{flat_map, range_with_len}
use Rattle.vt_bytes.specs.declared.memory.AddressRange.{AddressRange}
use Rattle.vt_bytes.specs.Memory.{Memory, IsMemory, IsRam, IsRamRange, at, bytes_at, high_start}
use Rattle.guest_memory.specs.Bytes.{HoldsBytes}
use Rattle.guest_memory.specs.Frames.{frame_start}
use Rattle.guest_memory.specs.Touched.{HeldMemory, IsHeld, is_touched, touched_count}
use Rattle.guest_memory.proofs.Touches.{start_low, start_high}
use Rattle.vt_outside.specs.Stream.{line_feeds}
use Rattle.memory_dump.specs.Dump.{dump}
use Rattle.memory_dump.specs.Rows.{addresses_in, is_fill, row_addresses, row_at, rows_of}
use Rattle.memory_dump.specs.declared.row.Row.{Row}
use Rattle.memory_dump.proofs.FeedsOfDump.{feeds_of_dump}
use Rattle.memory_dump.proofs.Frames.{all_fill}
use Rattle.memory_dump.proofs.Rows.{range_with_len-split}

-- the addresses of so many rows from a place in a range on, and their rows that have lines
abbrev places : ℕ → ℕ → ℕ → List ℕ
places start first n = map (λ k. start + 16 * k) (range_with_len first n)

abbrev rows_from : Memory → ℕ → ℕ → ℕ → List Row
rows_from m start first n = flat_map (row_at m) (places start first n)

rows_parts : (m : Memory) (start first n d : ℕ)
    → length (rows_from m start first (n + d)) ≡ length (rows_from m start first n) + length (rows_from m start (first + n) d)
rows_parts m start first n d =
    ap (λ l. length (flat_map (row_at m) (map (λ k. start + 16 * k) l))) (range_with_len-split first n d)
    ∙ ap (λ l. length (flat_map (row_at m) l)) (map-append (λ k. start + 16 * k) (range_with_len first n) (range_with_len (first + n) d))
    ∙ ap length (flat_map-append (row_at m) (places start first n) (places start (first + n) d))
    ∙ length-append (rows_from m start first n) (rows_from m start (first + n) d)

-- one row at most
row_few : (address fill : ℕ) (bytes : List ℕ) (test : Bool)
    → length (cond test [] (let row : Row = record { address = address; bytes = bytes } in row ∷ [])) ≤ 1
row_few address fill bytes true = omega arith
row_few address fill bytes false = omega arith

row_none : (address : ℕ) (bytes : List ℕ) (test : Bool) → test ≡ true
    → length (cond test [] (let row : Row = record { address = address; bytes = bytes } in row ∷ [])) ≡ 0
row_none address bytes true is = refl
row_none address bytes false is = cc

rows_few : (m : Memory) (start first n : ℕ) → length (rows_from m start first n) ≤ n
rows_few m start first zero = omega arith
rows_few m start first (suc n) =
    let address = start + 16 * first in
    let one = row_few address m.fill (bytes_at m address 16) (is_fill m.fill (bytes_at m address 16)) in
    omega (arith, one, length-append (row_at m address) (rows_from m start (first + 1) n), rows_few m start (first + 1) n)

-- and none of fill bytes
rows_none : (m : Memory) (start first n : ℕ) → ((i : ℕ) → i < 16 * n → at m (start + 16 * first + i) ≡ m.fill) → length (rows_from m start first n) ≡ 0
rows_none m start first zero filled = refl
rows_none m start first (suc n) filled =
    let address = start + 16 * first in
    let one = row_none address (bytes_at m address 16) (is_fill m.fill (bytes_at m address 16)) (all_fill m address 16 (λ i below. filled i (omega arith))) in
    let rest = rows_none m start (first + 1) n (λ i below.
    let place : start + 16 * first + (16 + i) ≡ start + 16 * (first + 1) + i = omega arith in
    subst (λ a. at m a ≡ m.fill) place (filled (16 + i) (omega arith))) in
    omega (arith, one, length-append (row_at m address) (rows_from m start (first + 1) n), rest)

-- a frame's rows, by its flag
frame_few : (held : HeldMemory) (start i frame : ℕ) (flag : Bool) → IsHeld held → frame < 8448 → frame_start held.memory.top frame ≡ start + 4096 * i
    → IsRamRange held.memory.top (start + 4096 * i) 4096 → is_touched held.touched frame ≡ flag
    → length (rows_from held.memory start (256 * i) 256) ≤ 256 * cond flag 1 0
frame_few held start i frame true is below begins ram told = rows_few held.memory start (256 * i) 256
frame_few held start i frame false is below begins ram told =
    let place : start + 16 * (256 * i) ≡ start + 4096 * i = omega arith in
    let none = rows_none held.memory start (256 * i) 256 (λ k within.
    let here : frame_start held.memory.top frame + k ≡ start + 16 * (256 * i) + k = omega (arith, begins, place) in
    let in_ram : IsRam held.memory.top (frame_start held.memory.top frame + k) =
    subst (λ a. IsRam held.memory.top (a + k)) (sym begins) (ram k (omega arith)) in
    subst (λ a. at held.memory a ≡ held.memory.fill) here (is.blank frame below told k (omega arith) in_ram)) in
    omega (arith, none)

-- the rows of so many frames from an index in a range on
frames_few : (held : HeldMemory) (start first i n : ℕ) → IsHeld held → first + i + n ≤ 8448
    → ((k : ℕ) → k < n → frame_start held.memory.top (first + i + k) ≡ start + 4096 * (i + k))
    → IsRamRange held.memory.top (start + 4096 * i) (4096 * n)
    → length (rows_from held.memory start (256 * i) (256 * n)) ≤ 256 * touched_count (take n (drop (first + i) held.touched))
frames_few held start first i zero is inside begin ram = omega (arith, rows_few held.memory start (256 * i) (256 * 0))
frames_few held start first i (suc n) is inside begin ram =
    let t = held.touched in
    let flag = is_touched t (first + i) in
    let size : 256 * suc n ≡ 256 + 256 * n = omega arith in
    let next : 256 * i + 256 ≡ 256 * (i + 1) = omega arith in
    let there : first + i + 0 ≡ first + i = omega arith in
    let one = frame_few held start i (first + i) flag is (omega arith) (ap (frame_start held.memory.top) (sym there) ∙ begin 0 (omega arith)
    ∙ ap (λ k. start + 4096 * k) (omega arith))
    (λ k below. ram k (omega arith)) refl in
    let later : first + (i + 1) ≡ suc (first + i) = omega arith in
    let rest = frames_few held start first (i + 1) n is (omega arith)
    (λ k below. let frame : first + i + suc k ≡ first + (i + 1) + k = omega arith in
    ap (frame_start held.memory.top) (sym frame) ∙ begin (suc k) (omega arith) ∙ ap (λ j. start + 4096 * j) (omega arith))
    (λ k below. let address : start + 4096 * i + (4096 + k) ≡ start + 4096 * (i + 1) + k = omega arith in
    subst (IsRam held.memory.top) address (ram (4096 + k) (omega arith))) in
    let cut : drop (first + i) t ≡ flag ∷ drop (first + (i + 1)) t =
    drop-cons t (first + i) false (omega (arith, is.count)) ∙ ap (λ k. flag ∷ drop k t) (sym later) in
    let count : touched_count (take (suc n) (drop (first + i) t)) ≡ cond flag 1 0 + touched_count (take n (drop (first + (i + 1)) t)) =
    ap (λ l. touched_count (take (suc n) l)) cut ∙ sum_by-cons (λ (b : Bool). cond b 1 0) flag (take n (drop (first + (i + 1)) t)) in
    omega (
      arith,
      ap (λ k. length (rows_from held.memory start (256 * i) k)) size ∙ rows_parts held.memory start (256 * i) 256 (256 * n),
      ap (λ k. length (rows_from held.memory start k (256 * n))) next,
      one,
      rest,
      count,
    )

-- the rows of a range of whole frames
range_few : (held : HeldMemory) (range : AddressRange) (first n : ℕ) → IsHeld held → range.end - range.start ≡ 4096 * n → first + n ≤ 8448
    → ((k : ℕ) → k < n → frame_start held.memory.top (first + k) ≡ range.start + 4096 * k)
    → IsRamRange held.memory.top range.start (4096 * n)
    → length (flat_map (row_at held.memory) (addresses_in range)) ≤ 256 * touched_count (take n (drop first held.touched))
unfolding addresses_in
range_few held range first n is size inside begin ram =
    let rows : (range.end - range.start) / 16 ≡ 256 * n = omega (arith, size) in
    let here : first + 0 ≡ first = omega arith in
    let start : range.start + 4096 * 0 ≡ range.start = omega arith in
    let all = frames_few held range.start first 0 n is (omega (arith, inside))
    (λ k below. let frame : first + 0 + k ≡ first + k = omega arith in ap (frame_start held.memory.top) frame ∙ begin k below
    ∙ ap (λ j. range.start + 4096 * j) (omega arith))
    (λ k below. subst (λ a. IsRam held.memory.top (a + k)) (sym start) (ram k below)) in
    omega (
      arith,
      ap (λ k. length (rows_from held.memory range.start 0 k)) rows,
      all,
      ap (λ k. touched_count (take n (drop k held.touched))) here,
    )

-- touched frames of three parts that stand apart
count_cut : (t : List Bool) (n : ℕ) → touched_count t ≡ touched_count (take n t) + touched_count (drop n t)
count_cut t n = ap touched_count (sym (take-append-drop n t)) ∙ sum_by-append (λ (b : Bool). cond b 1 0) (take n t) (drop n t)

three_few : (t : List Bool) (a b c d e : ℕ) → a ≤ b → b + c ≡ d
    → touched_count (take a (drop 0 t)) + (touched_count (take c (drop b t)) + touched_count (take e (drop d t))) ≤ touched_count t
three_few t a b c d e before joined =
    let whole = count_cut t a in
    let behind = count_cut (drop a t) (b - a) in
    let at_b : drop (b - a) (drop a t) ≡ drop b t = drop-drop (b - a) a t ∙ ap (λ k. drop k t) (omega (arith, before)) in
    let second = count_cut (drop b t) c in
    let at_d : drop c (drop b t) ≡ drop d t = drop-drop c b t ∙ ap (λ k. drop k t) joined in
    let third = count_cut (drop d t) e in
    omega (arith, whole, behind, ap touched_count at_b, second, ap touched_count at_d, third)

rows_of_three : (m : Memory) (a b c : List ℕ) → length (flat_map (row_at m) (a ++ (b ++ (c ++ []))))
    ≡ length (flat_map (row_at m) a) + (length (flat_map (row_at m) b) + length (flat_map (row_at m) c))
rows_of_three m a b c =
    let first = flat_map-append (row_at m) a (b ++ (c ++ [])) in
    let second = flat_map-append (row_at m) b (c ++ []) in
    let third = flat_map-append (row_at m) c [] in
    omega (
      arith,
      ap length first ∙ length-append (flat_map (row_at m) a) (flat_map (row_at m) (b ++ (c ++ []))),
      ap length second ∙ length-append (flat_map (row_at m) b) (flat_map (row_at m) (c ++ [])),
      ap length third ∙ length-append (flat_map (row_at m) c) [],
    )

-- the rows of all RAM
rows_of_ram : (held : HeldMemory) → IsMemory held.memory → IsHeld held → length (rows_of held.memory).rows ≤ 256 * touched_count held.touched
unfolding rows_of row_addresses
rows_of_ram held lawful is =
    let m = held.memory in let t = held.touched in
    let low : AddressRange = record { start = 0; end = 0xA0000 } in
    let bios : AddressRange = record { start = 0xE0000; end = 0x100000 } in
    let high : AddressRange = record { start = high_start m.top; end = m.top } in
    let first = range_few held low 0 160 is refl (omega arith) (λ k below. start_low m.top (0 + k) (omega arith) ∙ omega arith)
    (λ k below. inl (omega arith, omega arith)) in
    let second = range_few held bios 224 32 is refl (omega arith) (λ k below. start_low m.top (224 + k) (omega arith) ∙ omega arith)
    (λ k below. inr (inl (omega arith, omega arith))) in
    let third = range_few held high 256 8192 is (omega (arith, lawful.top.at_least)) (omega arith)
    (λ k below. start_high m.top (256 + k) (omega arith) ∙ omega arith)
    (λ k below. inr (inr (inl (omega arith, omega (arith, lawful.top.at_least))))) in
    let all : length (flat_map (row_at m) (addresses_in low ++ (addresses_in bios ++ (addresses_in high ++ []))))
    ≡ length (flat_map (row_at m) (addresses_in low)) + (length (flat_map (row_at m) (addresses_in bios)) + length (flat_map (row_at m) (addresses_in high))) =
    rows_of_three m (addresses_in low) (addresses_in bios) (addresses_in high) in
    omega (arith, all, first, second, third, three_few t 160 224 32 256 8192 (omega arith) refl)

pub few_lines : (held : HeldMemory) → IsMemory held.memory → HoldsBytes held.memory → IsHeld held
    → line_feeds (dump held.memory) ≤ 2 + 256 * touched_count held.touched
few_lines held lawful holds is = omega (arith, feeds_of_dump held.memory lawful holds, rows_of_ram held lawful is)
