-- What a sink took of a text, piece by piece.
use Rattle.std.proofs.Common.{◌≡◌, ℕ, ◌+◌, ◌-◌, ◌^◌, min, max, List, [], ◌++◌, length, take, drop, refl, ap, sym, ◌∙◌, append_assoc, arith}
use Rattle.std.proofs.lemmas.List.{take-append-drop, take_rest, append-nil}
use Rattle.std.proofs.lemmas.List.Sums.{sum_by-append}
use Rattle.vt_outside.specs.Stream.{SinkSeen, Told, Untold, Bytes, LineFeeds, line_feeds, behind, Took, TookFront}

pub line_feeds-append : (a b : List ℕ) → line_feeds (a ++ b) ≡ line_feeds a + line_feeds b
line_feeds-append a b = sum_by-append _ a b

-- two numbers counted one after the other are their sum counted
counted_both : (count a b both last : ℕ) → both ≡ a + b
    → max (max count (min (count + a) last)) (min (max count (min (count + a) last) + b) last) ≡ max count (min (count + both) last)
counted_both count a b both last all = omega arith

counted_none : (count last : ℕ) → count ≡ max count (min (count + 0) last)
counted_none count last = omega arith

-- two pieces taken one after the other are one piece taken
pub behind-append : (taken : Told) (a b : List ℕ) → behind (behind taken a) b ≡ behind taken (a ++ b)
behind-append Untold a b = refl
behind-append (Bytes before) a b = ap (λ (bytes : List ℕ). Bytes bytes) (append_assoc before a b)
behind-append (LineFeeds before) a b =
    ap (λ (count : ℕ). LineFeeds count) (counted_both before (line_feeds a) (line_feeds b) (line_feeds (a ++ b)) (2 ^ 64 - 1) (line_feeds-append a b))

-- nothing more is taken
pub behind-nothing : (taken : Told) → taken ≡ behind taken []
behind-nothing Untold = refl
behind-nothing (Bytes before) = ap (λ (bytes : List ℕ). Bytes bytes) (sym (append-nil before))
behind-nothing (LineFeeds before) = ap (λ (count : ℕ). LineFeeds count) (counted_none before (2 ^ 64 - 1))

-- a sink that took nothing is as it was
pub took_nothing : (s : SinkSeen) → Took [] s s
took_nothing s = ap (λ (taken : Told). record s { taken = taken }) (behind-nothing s.taken)

-- a text, and then another
pub took_then : (before now after : SinkSeen) (text more : List ℕ) → Took text before now → Took more now after → Took (text ++ more) before after
took_then before now after text more first second =
    second ∙ ap (λ (s : SinkSeen). record s { taken = behind s.taken more }) first
    ∙ ap (λ (taken : Told). record before { taken = taken }) (behind-append before.taken text more)

-- The sink took what of the text stands before this rest.
pub record TookUpTo (text rest : List ℕ) (before after : SinkSeen) : Type 0 where
  pub front : List ℕ
  pub text_is : text ≡ front ++ rest
  pub took : Took front before after

-- one more piece from the front of the rest, which leaves what stands after it
pub took_piece : (before now after : SinkSeen) (text rest : List ℕ) (count : ℕ) → TookUpTo text rest before now
    → Took (take count rest) now after → TookUpTo text (take (length rest - count) (drop count rest)) before after
took_piece before now after text rest count so_far more =
    let left : take (length rest - count) (drop count rest) ≡ drop count rest = take_rest rest count in
    let whole : text ≡ (so_far.front ++ take count rest) ++ drop count rest =
    so_far.text_is ∙ ap (λ (bytes : List ℕ). so_far.front ++ bytes) (sym (take-append-drop count rest))
    ∙ sym (append_assoc so_far.front (take count rest) (drop count rest)) in
    rw left (record {
      front = so_far.front ++ take count rest;
      text_is = whole;
      took = took_then before now after so_far.front (take count rest) so_far.took more;
    })

-- a text, and then a front of another
pub front_then : (before now after : SinkSeen) (text more : List ℕ) → Took text before now → TookFront more now after
    → TookFront (text ++ more) before after
front_then before now after text more first second =
    let whole : text ++ more ≡ (text ++ second.front) ++ second.rest =
    ap (λ (bytes : List ℕ). text ++ bytes) second.text_is ∙ sym (append_assoc text second.front second.rest) in
    record {
      front = text ++ second.front;
      rest = second.rest;
      text_is = whole;
      took = second.took ∙ ap (λ (s : SinkSeen). record s { taken = behind s.taken second.front; faults = after.faults }) first
          ∙ ap (λ (taken : Told). record before { taken = taken; faults = after.faults }) (behind-append before.taken text second.front);
      rose = rw (ap (λ (s : SinkSeen). s.faults) (sym first)) second.rose;
    }

-- a front of a text is a front of a longer one
pub front_more : (before after : SinkSeen) (text more : List ℕ) → TookFront text before after → TookFront (text ++ more) before after
front_more before after text more took =
    let whole : text ++ more ≡ took.front ++ (took.rest ++ more) =
    ap (λ (bytes : List ℕ). bytes ++ more) took.text_is ∙ append_assoc took.front took.rest more in
    record { front = took.front; rest = took.rest ++ more; text_is = whole; took = took.took; rose = took.rose }
