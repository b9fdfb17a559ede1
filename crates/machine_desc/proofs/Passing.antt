-- Lists in which no element fails a test.
use Rattle.std.proofs.Common.{◌≡◌, ℕ, zero, suc, ◌+◌, ◌<◌, ◌≤◌, Bool, true, false, not, ◌&&◌, List, [], ◌∷◌, length, get_or, Some, None, cond, nat_lt}
use Rattle.std.proofs.Common.{refl, arith, if◌then◌else◌}
use Rattle.std.proofs.lemmas.Bool.{and_parts, ltb-true, ltb-false}
use Rattle.std.proofs.lemmas.Option.{cond_some}
use Rattle.std.specs.List.{list_all, position_or_len, prefix_len}
use Rattle.machine_desc.specs.Rules.{first_failing}

-- where an element fails, its place is in the list
pub failing_within : {A : Type 0} (test : A → Bool) (xs : List A) (place : ℕ) → first_failing test xs ≡ Some place → place < length xs
failing_within test xs place is =
    let here = position_or_len (λ x. not (test x)) xs in
    let (within, same) = cond_some (nat_lt here (length xs)) here place is in
    omega (arith, ltb-true here (length xs) within, same)

none_within : (test : Bool) (place : ℕ) → (if test then Some place else None) ≡ None → test ≡ false
none_within true place is = absurd (cc)
none_within false place is = refl

passes_on : (passes others : Bool) (left place : ℕ) → suc left ≤ cond (not (not passes)) (1 + place) 0 → (left ≤ place → others ≡ true)
    → (passes && others) ≡ true
passes_on true others left place past next = next (omega arith)
passes_on false others left place past next = absurd (omega arith)

all_before : {A : Type 0} (test : A → Bool) (xs : List A) → length xs ≤ prefix_len (λ x. not (not (test x))) xs → list_all test xs ≡ true
all_before test [] past = refl
all_before test (x ∷ xs) past =
    passes_on (test x) (list_all test xs) (length xs) (prefix_len (λ x. not (not (test x))) xs) past (all_before test xs)

-- where none fails, all pass
pub all_pass : {A : Type 0} (test : A → Bool) (xs : List A) → first_failing test xs ≡ None → list_all test xs ≡ true
all_pass test xs none =
    let here = position_or_len (λ x. not (test x)) xs in
    all_before test xs (ltb-false here (length xs) (none_within (nat_lt here (length xs)) here none))

-- the element at a place passes, where there is one
pub passing_at : {A : Type 0} (test : A → Bool) (xs : List A) (place : ℕ) (other : A) → list_all test xs ≡ true → test other ≡ true
    → test (get_or xs place other) ≡ true
passing_at test [] place other all none = none
passing_at test (x ∷ xs) zero other all none = (and_parts (test x) (list_all test xs) all).0
passing_at test (x ∷ xs) (suc place) other all none = passing_at test xs place other (and_parts (test x) (list_all test xs) all).1 none

-- a fact and others, in a line each
infixr 2 ◌⨾◌
pub ◌⨾◌ : {A B : Type 0} → A → B → A × B
a ⨾ b = (a, b)
