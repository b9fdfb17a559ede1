-- A dump, part by part: the first line, the lines of the ranges of RAM, and the last line.
use Rattle.std.proofs.Common.{◌≡◌, ℕ, ◌+◌, ◌<◌, List, [], ◌∷◌, ◌++◌, length, take, drop, get_or, ap, subst, sym, ◌∙◌}
use Rattle.std.proofs.lemmas.Grind.{flat_map-append}
use Rattle.std.proofs.lemmas.List.{append-nil, take_more, take-append-drop}
use Rattle.std.specs.Prelude.{codes}
use Rattle.vt_bytes.specs.declared.memory.AddressRange.{AddressRange}
use Rattle.vt_bytes.specs.Memory.{Memory, ram_ranges}
use Rattle.memory_dump.specs.Dump.{dump, header_line, last_line, range_text, ranges_text}
use Rattle.vt_outside.specs.Stream.{SinkSeen, Took, TookFront}
use Rattle.vt_outside.proofs.Taken.{took_nothing, took_then, front_then, front_more}

-- the first line, as the code writes it
pub header_is : (m : Memory) (top fill : ℕ) (text : List ℕ) → text ≡ header_line top fill → top ≡ m.top → fill ≡ m.fill → text ≡ header_line m.top m.fill
header_is m top fill text written same_top same_fill =
    written ∙ ap (λ (t : ℕ). header_line t fill) same_top ∙ ap (header_line m.top) same_fill

-- the lines of some of the ranges, and then of those after them
ranges_text-append : (m : Memory) (front back : List AddressRange) → ranges_text m (front ++ back) ≡ ranges_text m front ++ ranges_text m back
unfolding ranges_text
ranges_text-append m front back = flat_map-append (range_text m) front back

ranges_text-more : (m : Memory) (ranges : List AddressRange) (k : ℕ) (other : AddressRange) → k < length ranges
    → ranges_text m (take (k + 1) ranges) ≡ ranges_text m (take k ranges) ++ range_text m (get_or ranges k other)
unfolding ranges_text
ranges_text-more m ranges k other below =
    ap (ranges_text m) (take_more ranges k other below) ∙ ranges_text-append m (take k ranges) (get_or ranges k other ∷ [])
    ∙ ap (λ (lines : List ℕ). ranges_text m (take k ranges) ++ lines) (append-nil (range_text m (get_or ranges k other)))

-- the sink took the lines of no range
pub ranges_none : (before : SinkSeen) (m : Memory) → Took (ranges_text m []) before before
unfolding ranges_text
ranges_none before m = took_nothing before

-- the sink took the lines of one more range
pub ranges_more : (before now after : SinkSeen) (m : Memory) (ranges : List AddressRange) (k : ℕ) (other : AddressRange) → k < length ranges
    → Took (ranges_text m (take k ranges)) before now → Took (range_text m (get_or ranges k other)) now after
    → Took (ranges_text m (take (k + 1) ranges)) before after
ranges_more before now after m ranges k other below so_far took =
    subst (λ t. Took t before after) (sym (ranges_text-more m ranges k other below))
    (took_then before now after (ranges_text m (take k ranges)) (range_text m (get_or ranges k other)) so_far took)

-- the sink took a front of the lines of one more range, and so of all of them
pub ranges_failed : (before now after : SinkSeen) (m : Memory) (ranges : List AddressRange) (k : ℕ) (other : AddressRange) → k < length ranges
    → Took (ranges_text m (take k ranges)) before now → TookFront (range_text m (get_or ranges k other)) now after
    → TookFront (ranges_text m ranges) before after
ranges_failed before now after m ranges k other below so_far took =
    let whole : ranges_text m ranges ≡ (ranges_text m (take k ranges) ++ range_text m (get_or ranges k other)) ++ ranges_text m (drop (k + 1) ranges) =
    ap (ranges_text m) (sym (take-append-drop (k + 1) ranges)) ∙ ranges_text-append m (take (k + 1) ranges) (drop (k + 1) ranges)
    ∙ ap (λ (lines : List ℕ). lines ++ ranges_text m (drop (k + 1) ranges)) (ranges_text-more m ranges k other below) in
    subst (λ t. TookFront t before after) (sym whole)
    (front_more before after (ranges_text m (take k ranges) ++ range_text m (get_or ranges k other)) (ranges_text m (drop (k + 1) ranges))
    (front_then before now after (ranges_text m (take k ranges)) (range_text m (get_or ranges k other)) so_far took))

-- the first line and the lines of RAM
abbrev pub up_to_last : Memory → List ℕ
up_to_last m = header_line m.top m.fill ++ ranges_text m (ram_ranges m.top)

-- the sink took all of it
pub all_taken : (before now after : SinkSeen) (m : Memory) → Took (up_to_last m) before now → Took (codes "end" ++ 10 ∷ []) now after
    → Took (dump m) before after
unfolding dump last_line
all_taken before now after m lines took = took_then before now after (up_to_last m) last_line lines took

-- the sink took a front of all of it
pub last_failed : (before now after : SinkSeen) (m : Memory) → Took (up_to_last m) before now → TookFront (codes "end" ++ 10 ∷ []) now after
    → TookFront (dump m) before after
unfolding dump last_line
last_failed before now after m lines took = front_then before now after (up_to_last m) last_line lines took

-- a front of what comes before the last line
pub lines_failed : (before after : SinkSeen) (m : Memory) → TookFront (up_to_last m) before after → TookFront (dump m) before after
unfolding dump
lines_failed before after m took = front_more before after (up_to_last m) last_line took

-- a front of the first line
pub header_failed : (before after : SinkSeen) (m : Memory) (text : List ℕ) → text ≡ header_line m.top m.fill → TookFront text before after
    → TookFront (dump m) before after
header_failed before after m text header took =
    lines_failed before after m
    (front_more before after (header_line m.top m.fill) (ranges_text m (ram_ranges m.top)) (subst (λ t. TookFront t before after) header took))
