-- A list after bytes were put at a place of it.
use Rattle.std.proofs.Common.{◌≡◌, ℕ, ◌+◌, ◌-◌, List, ◌++◌, take, drop, arith, ap, ◌∙◌, sym, append_assoc}
use Rattle.std.proofs.lemmas.List.{drop-drop}
use borrow.Rule.Slice.PartMut.{put_mid}

-- what a copy to a part of a slice leaves
pub put_mid_is : (bytes part : List ℕ) (at n : ℕ) → put_mid at (at + n - at) bytes part ≡ take at bytes ++ part ++ drop (at + n) bytes
put_mid_is bytes part at n =
    let count : at + (at + n - at) ≡ at + n = omega arith in
    let rest : drop (at + n - at) (drop at bytes) ≡ drop (at + n) bytes = drop-drop (at + n - at) at bytes ∙ ap (λ k. drop k bytes) count in
    ap (λ end. take at bytes ++ (part ++ end)) rest ∙ sym (append_assoc (take at bytes) part (drop (at + n) bytes))
