-- Parts of bytes, and the lists that stand in them.
use Rattle.std.proofs.Common.{◌≡◌, ℕ, ◌+◌, ◌-◌, ◌≤◌, List, [], ◌++◌, length, take, drop, arith, ap, sym, ◌∙◌, append-nil}
use Rattle.std.proofs.lemmas.List.{take_at, drop_at, take-take, drop-take, drop-drop}
use Rattle.vt_bytes.specs.Parts.{part}

-- a part of a part
pub part-part : (bytes : List ℕ) (at n offset count : ℕ) → offset + count ≤ n → part (part bytes at n) offset count ≡ part bytes (at + offset) count
part-part bytes at n offset count within =
    let in_two : n ≡ offset + (n - offset) = omega arith in
    ap (λ all. take count (drop offset (take all (drop at bytes)))) in_two
    ∙ ap (take count) (drop-take offset (n - offset) (drop at bytes))
    ∙ take-take count (n - offset) (drop offset (drop at bytes)) (omega arith)
    ∙ ap (take count) (drop-drop offset at bytes)

-- where two lists stand one after the other, the first stands
pub part_first : (bytes xs ys : List ℕ) (at n count : ℕ) → part bytes at n ≡ xs ++ ys → length xs ≡ count → count ≤ n → part bytes at count ≡ xs
part_first bytes xs ys at n count is size within =
    let here : at ≡ at + 0 = omega arith in
    let from_start : 0 + count ≤ n = omega arith in
    ap (λ place. part bytes place count) here ∙ sym (part-part bytes at n 0 count from_start) ∙ ap (take count) is ∙ take_at xs ys count size

-- and the second behind it
pub part_second : (bytes xs ys : List ℕ) (at n offset count : ℕ) → part bytes at n ≡ xs ++ ys → length xs ≡ offset → length ys ≡ count → offset + count ≤ n
    → part bytes (at + offset) count ≡ ys
part_second bytes xs ys at n offset count is front size within =
    sym (part-part bytes at n offset count within) ∙ ap (λ all. take count (drop offset all)) is ∙ ap (take count) (drop_at xs ys offset front)
    ∙ ap (take count) (sym (append-nil ys)) ∙ take_at ys [] count size
