-- Lines as a sink takes them: a line, the lines of a list's items, and lines one behind the other.
use Rattle.std.proofs.Common.{◌≡◌, ℕ, ◌+◌, ◌<◌, ◌≤◌, List, [], ◌∷◌, ◌++◌, length, take, drop, take_all, get_or, flat_map, ap}
use Rattle.std.proofs.Common.{subst, sym, ◌∙◌}
use Rattle.std.proofs.lemmas.Grind.{flat_map-append}
use Rattle.std.proofs.lemmas.List.{append-nil, take_more, take-append-drop}
use Rattle.vt_outside.specs.Stream.{SinkSeen, Took, TookFront}
use Rattle.vt_outside.proofs.Taken.{took_then, front_then, front_more}

-- the sink took a text, which is this one, or a front of it
pub took_same : (before after : SinkSeen) (written text : List ℕ) → written ≡ text → Took written before after → Took text before after
took_same before after written text same took = subst (λ t. Took t before after) same took

pub front_same : (before after : SinkSeen) (written text : List ℕ) → written ≡ text → TookFront written before after
    → TookFront text before after
front_same before after written text same took = subst (λ t. TookFront t before after) same took

-- the lines of the items up to a place, and of the one there
lines_more : {X : Type 0} (line : X → List ℕ) (items : List X) (k : ℕ) (other : X) → k < length items
    → flat_map line (take (k + 1) items) ≡ flat_map line (take k items) ++ line (get_or items k other)
lines_more line items k other below =
    ap (flat_map line) (take_more items k other below) ∙ flat_map-append line (take k items) (get_or items k other ∷ [])
    ∙ ap (λ (lines : List ℕ). flat_map line (take k items) ++ lines) (append-nil (line (get_or items k other)))

-- the sink took the lines of one more item
pub lines_taken : {X : Type 0} (line : X → List ℕ) (before now after : SinkSeen) (items : List X) (k : ℕ) (other : X) → k < length items
    → Took (flat_map line (take k items)) before now → Took (line (get_or items k other)) now after
    → Took (flat_map line (take (k + 1) items)) before after
lines_taken line before now after items k other below so_far took =
    subst (λ text. Took text before after) (sym (lines_more line items k other below))
    (took_then before now after (flat_map line (take k items)) (line (get_or items k other)) so_far took)

-- the sink took the lines of all items
pub lines_all : {X : Type 0} (line : X → List ℕ) (before after : SinkSeen) (items : List X) (k : ℕ) → length items ≤ k
    → Took (flat_map line (take k items)) before after → Took (flat_map line items) before after
lines_all line before after items k end took =
    took_same before after (flat_map line (take k items)) (flat_map line items) (ap (flat_map line) (take_all k items end)) took

-- the sink took a front of the lines of one more item, and so of those of all
pub lines_failed : {X : Type 0} (line : X → List ℕ) (before now after : SinkSeen) (items : List X) (k : ℕ) (other : X) → k < length items
    → Took (flat_map line (take k items)) before now → TookFront (line (get_or items k other)) now after
    → TookFront (flat_map line items) before after
lines_failed line before now after items k other below so_far took =
    let front = flat_map line (take k items) in
    let item = line (get_or items k other) in
    let rest = flat_map line (drop (k + 1) items) in
    let whole : flat_map line items ≡ (front ++ item) ++ rest =
    ap (flat_map line) (sym (take-append-drop (k + 1) items)) ∙ flat_map-append line (take (k + 1) items) (drop (k + 1) items)
    ∙ ap (λ (lines : List ℕ). lines ++ rest) (lines_more line items k other below) in
    subst (λ text. TookFront text before after) (sym whole)
    (front_more before after (front ++ item) rest (front_then before now after front item so_far took))
