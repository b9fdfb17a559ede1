-- What a source in memory gives, and what it leaves.
use Rattle.std.proofs.Common.{◌≡◌, ℕ, ◌+◌, ◌-◌, ◌≤◌, List, ◌++◌, length, take, drop, min, ap, sym, ◌∙◌, arith}
use Rattle.std.proofs.lemmas.List.{length-take-le, take_at, take_rest, take-append-drop, drop-drop}

-- the first bytes of what is left, copied to the front of a buffer, and then the rest, are what was left
given_then_rest : (bytes buffer piece : List ℕ) (given n : ℕ) → n ≤ length (drop given bytes) → piece ≡ take n (drop given bytes)
    → drop given bytes ≡ take n (piece ++ drop n buffer) ++ drop (given + n) bytes
given_then_rest bytes buffer piece given n fits copied =
    let as_long : length piece ≡ n = ap length copied ∙ length-take-le n (drop given bytes) fits in
    let front : take n (piece ++ drop n buffer) ≡ take n (drop given bytes) = take_at piece (drop n buffer) n as_long ∙ copied in
    rw (front, ← drop-drop n given bytes, take-append-drop n (drop given bytes))

-- the same in the words of a read: of what is left after `given` bytes, at most `limit` are copied
pub given_then_left : (left bytes slice buffer piece : List ℕ) (given n limit : ℕ) → drop given bytes ≡ left → slice ≡ bytes
    → n ≡ min limit (length (take (length slice - given) (drop given slice))) → piece ≡ take n (take (length slice - given) (drop given slice))
    → left ≡ take n (piece ++ drop n buffer) ++ drop (given + n) bytes
given_then_left left bytes slice buffer piece given n limit view same count copied =
    let rest : take (length slice - given) (drop given slice) ≡ drop given bytes = take_rest slice given ∙ ap (drop given) same in
    let fits : n ≤ length (drop given bytes) = rw (← rest) (omega (arith, count)) in
    sym view ∙ given_then_rest bytes buffer piece given n fits (copied ∙ ap (take n) rest)
