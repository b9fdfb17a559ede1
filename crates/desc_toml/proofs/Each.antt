-- The parts of an array, one after the other.
use Rattle.std.proofs.Common.{◌≡◌, ℕ, suc, ◌+◌, ◌-◌, ◌<◌, List, [], ◌∷◌, ◌++◌, append-nil, append_assoc, sym, ap, ◌∙◌, arith}
use Rattle.desc_schema.specs.declared.value.Value.{Value}
use Rattle.desc_toml.specs.Values.{each_of}

-- the parts that were taken with those that are left, and what follows them
abbrev pub with_left : {V : Type 0} → (List Value → V × List Value) → ℕ → List V → List Value → List V × List Value
with_left taken n before values = (before ++ (each_of taken n values).0, (each_of taken n values).1)

one_more : {V : Type 0} (taken : List Value → V × List Value) (n : ℕ) (before : List V) (values : List Value)
    → with_left taken n (before ++ (taken values).0 ∷ []) (taken values).1 ≡ with_left taken (suc n) before values
one_more taken n before values =
    ap (λ all. (all, (each_of taken n (taken values).1).1)) (append_assoc before ((taken values).0 ∷ []) _)

pub next_part : {V : Type 0} (taken : List Value → V × List Value) (count before_count : ℕ) (before : List V) (values : List Value)
    → before_count < count
    → with_left taken (count - (before_count + 1)) (before ++ (taken values).0 ∷ []) (taken values).1
    ≡ with_left taken (count - before_count) before values
next_part taken count before_count before values more =
    let next : suc (count - (before_count + 1)) ≡ count - before_count = omega arith in
    one_more taken (count - (before_count + 1)) before values ∙ ap (λ n. with_left taken n before values) next

pub all_taken : {V : Type 0} (taken : List Value → V × List Value) (n : ℕ) (before : List V) (values : List Value) (all : List V × List Value)
    → with_left taken n before values ≡ all → n ≡ 0 → (before, values) ≡ all
all_taken taken n before values all is none =
    ap (λ parts. (parts, values)) (sym (append-nil before)) ∙ sym (ap (λ left. with_left taken left before values) none) ∙ is
