-- The lines of rows, row by row.
use Rattle.std.proofs.Common.{◌≡◌, ◌==◌, ℕ, zero, suc, ◌+◌, ◌*◌, ◌-◌, ◌<◌, ◌≤◌, Bool, true, false, List, [], ◌∷◌, ◌++◌, length, take, drop, refl, ap}
use Rattle.std.proofs.Common.{sym, ◌∙◌, arith}
use Rattle.std.proofs.lemmas.Grind.{flat_map-append}
use Rattle.std.proofs.lemmas.List.{append-nil}
use Rattle.std.proofs.lemmas.Slice.{take-put_mid}
use borrow.Rule.Slice.PartMut.{put_mid}
use Rattle.std.specs.List.{flat_map, list_all, range_with_len}
use Rattle.vt_bytes.specs.Memory.{Memory, bytes_at}
use Rattle.vt_bytes.proofs.Bytes.{part-bytes_at}
use Rattle.memory_dump.specs.Dump.{row_line, row_text, rows_text}
use Rattle.vt_outside.specs.Stream.{SinkSeen, Took}
use Rattle.vt_outside.proofs.Taken.{took_nothing}

-- a range of numbers in two parts
pub range_with_len-split : (a n d : ℕ) → range_with_len a (n + d) ≡ range_with_len a n ++ range_with_len (a + n) d
range_with_len-split a zero d =
    let none : 0 + d ≡ d = omega arith in
    let here : a ≡ a + 0 = omega arith in
    ap (range_with_len a) none ∙ ap (λ (b : ℕ). range_with_len b d) here
range_with_len-split a (suc n) d =
    let count : suc n + d ≡ suc (n + d) = omega arith in
    let place : a + 1 + n ≡ a + suc n = omega arith in
    ap (range_with_len a) count ∙ ap (λ (numbers : List ℕ). a ∷ numbers) (range_with_len-split (a + 1) n d)
    ∙ ap (λ (b : ℕ). a ∷ (range_with_len (a + 1) n ++ range_with_len b d)) place

-- the line of a row of a memory
abbrev pub line_at : Memory → ℕ → ℕ → List ℕ
line_at m start k = row_line m.fill (start + 16 * k) (bytes_at m (start + 16 * k) 16)

-- the lines of some rows, and then of those after them
pub rows_text-split : (m : Memory) (start n d : ℕ) → rows_text m start (n + d) ≡ rows_text m start n ++ flat_map (line_at m start) (range_with_len n d)
unfolding rows_text
rows_text-split m start n d =
    let next : 0 + n ≡ n = omega arith in
    ap (flat_map (line_at m start)) (range_with_len-split 0 n d)
    ∙ flat_map-append (line_at m start) (range_with_len 0 n) (range_with_len (0 + n) d)
    ∙ ap (λ (b : ℕ). flat_map (line_at m start) (range_with_len 0 n) ++ flat_map (line_at m start) (range_with_len b d)) next

-- the lines of one more row
pub rows_text-more : (m : Memory) (start k : ℕ) → rows_text m start (k + 1) ≡ rows_text m start k ++ line_at m start k
rows_text-more m start k =
    rows_text-split m start k 1 ∙ ap (λ (line : List ℕ). rows_text m start k ++ line) (append-nil (line_at m start k))

-- the lines of some of the rows are a front of the lines of all
pub rows_text-front : (m : Memory) (start k count : ℕ) → k ≤ count → (rest : List ℕ) × (rows_text m start count ≡ rows_text m start k ++ rest)
rows_text-front m start k count within =
    let whole : count ≡ k + (count - k) = omega arith in
    (flat_map (line_at m start) (range_with_len k (count - k)), ap (rows_text m start) whole ∙ rows_text-split m start k (count - k))

-- a row of a frame, of whose bytes it is a part
pub row_of_frame : (m : Memory) (address k : ℕ) (frame : List ℕ) → frame ≡ bytes_at m address 4096 → k < 256
    → take (16 * k + 16 - 16 * k) (drop (16 * k) frame) ≡ bytes_at m (address + 16 * k) 16
row_of_frame m address k frame read below =
    let size : 16 * k + 16 - 16 * k ≡ 16 = omega arith in
    rw (size, read) (part-bytes_at m address 4096 (16 * k) 16 (omega arith))

-- a row of fill bytes has no line
pub line_at-filled : (m : Memory) (start k fill : ℕ) (row : List ℕ) (filled : Bool) → row ≡ bytes_at m (start + 16 * k) 16 → fill ≡ m.fill
    → filled ≡ list_all (λ byte. byte == fill) row → filled ≡ true → line_at m start k ≡ []
line_at-filled m start k fill row filled read same test all =
    let tested : list_all (λ byte. byte == m.fill) (bytes_at m (start + 16 * k) 16) ≡ true =
    rw (← read, ← same) (sym test ∙ all) in
    rw tested

-- any other row has one
pub line_at-written : (m : Memory) (start k fill : ℕ) (row text : List ℕ) (filled : Bool) → row ≡ bytes_at m (start + 16 * k) 16 → fill ≡ m.fill
    → filled ≡ list_all (λ byte. byte == fill) row → filled ≡ false → text ≡ row_text (start + 16 * k) row → line_at m start k ≡ text
line_at-written m start k fill row text filled read same test other written =
    let tested : list_all (λ byte. byte == m.fill) (bytes_at m (start + 16 * k) 16) ≡ false =
    rw (← read, ← same) (sym test ∙ other) in
    rw tested (ap (row_text (start + 16 * k)) (sym read) ∙ sym written)

-- the lines of no rows
pub text_none : (m : Memory) (start : ℕ) → [] ≡ rows_text m start 0
unfolding rows_text
text_none m start = refl

-- the row had no line
pub text_same : (m : Memory) (start k : ℕ) (so_far : List ℕ) → so_far ≡ rows_text m start k → line_at m start k ≡ [] → so_far ≡ rows_text m start (k + 1)
text_same m start k so_far before no_line =
    before ∙ sym (append-nil (rows_text m start k)) ∙ ap (λ (line : List ℕ). rows_text m start k ++ line) (sym no_line) ∙ sym (rows_text-more m start k)

-- one more line was put behind the lines so far
pub text_more : (m : Memory) (start k len : ℕ) (text line : List ℕ) → length line ≡ 42 → len + 42 ≤ length text → take len text ≡ rows_text m start k
    → line_at m start k ≡ line → take (len + 42) (put_mid len (len + 42 - len) text line) ≡ rows_text m start (k + 1)
text_more m start k len text line long room before is_line =
    take-put_mid len (len + 42 - len) text line (len + 42) (omega (arith, long)) (omega (arith, room)) ∙ ap (λ (lines : List ℕ). lines ++ line) before
    ∙ ap (λ (bytes : List ℕ). rows_text m start k ++ bytes) (sym is_line) ∙ sym (rows_text-more m start k)

-- the sink took the lines of no rows
pub rows_none : (before : SinkSeen) (m : Memory) (start : ℕ) → Took (rows_text m start 0) before before
unfolding rows_text
rows_none before m start = took_nothing before
