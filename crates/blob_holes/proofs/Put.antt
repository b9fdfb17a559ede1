-- Bytes that are put in place of others, and parts of a list.
use Rattle.std.proofs.Common.{◌≡◌, ℕ, ◌+◌, ◌-◌, ◌<◌, ◌≤◌, List, ◌++◌, length, slice_index, take, drop, min, arith, ap, sym, ◌∙◌}
use Rattle.std.proofs.Common.{length-take, length-drop, get_or-take, get_or-drop, append_assoc}
use Rattle.std.proofs.lemmas.Grind.{same_number_lists}
use Rattle.std.proofs.lemmas.List.{take_at, drop_at}
use Rattle.vt_bytes.specs.Parts.{part, put_at}

-- the bytes stand at their place
pub part-put_at : (bytes : List ℕ) (at : ℕ) (piece : List ℕ) (n : ℕ) → at + length piece ≤ length bytes → n ≡ length piece
    → part (put_at bytes at piece) at n ≡ piece
part-put_at bytes at piece n within size =
    let front : length (take at bytes) ≡ at = simp length-take (omega arith) in
    ap (λ all. take n (drop at all)) (append_assoc (take at bytes) piece (drop (at + length piece) bytes))
    ∙ ap (take n) (drop_at (take at bytes) (piece ++ drop (at + length piece) bytes) at front)
    ∙ take_at piece (drop (at + length piece) bytes) n (sym size)

-- lists of one length that agree in a part have the same part
pub part_same : (xs ys : List ℕ) (at n : ℕ) → length xs ≡ length ys → ((place : ℕ) → at ≤ place → place < at + n
    → slice_index xs place ≡ slice_index ys place) → part xs at n ≡ part ys at n
part_same xs ys at n size same =
    let as_long : length (part xs at n) ≡ length (part ys at n) = simp (length-take, length-drop) (ap (λ k. min n (k - at)) size) in
    same_number_lists (part xs at n) (part ys at n) as_long (λ k l.
    let below : k < n = omega (arith, length-take n (drop at xs)) in
    get_or-take n (drop at xs) k 0 below ∙ get_or-drop at xs k 0
    ∙ same (at + k) (omega arith) (omega arith)
    ∙ sym (get_or-take n (drop at ys) k 0 below ∙ get_or-drop at ys k 0))
