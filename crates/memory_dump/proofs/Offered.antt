-- A sink that is offered a text line by line.
use Rattle.std.proofs.Common.{◌≡◌, ℕ, List, ◌++◌, take, drop, ap, sym, subst, ◌∙◌, append_assoc}
use Rattle.std.proofs.lemmas.List.{take-append-drop}
use Rattle.vt_outside.specs.Stream.{SinkSeen, TookFront}
use Rattle.vt_outside.proofs.Taken.{TookUpTo, front_then, front_more}

-- the sink took a front of the next line, and so of the text
pub line_failed : (before now after : SinkSeen) (text rest : List ℕ) (size : ℕ) → TookUpTo text rest before now → TookFront (take size rest) now after
    → TookFront text before after
line_failed before now after text rest size so_far failed =
    let whole : text ≡ (so_far.front ++ take size rest) ++ drop size rest =
    so_far.text_is ∙ ap (λ (bytes : List ℕ). so_far.front ++ bytes) (sym (take-append-drop size rest))
    ∙ sym (append_assoc so_far.front (take size rest) (drop size rest)) in
    subst (λ t. TookFront t before after) (sym whole)
    (front_more before after (so_far.front ++ take size rest) (drop size rest) (front_then before now after so_far.front (take size rest) so_far.took failed))
