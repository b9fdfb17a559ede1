-- Tests that all elements of a list pass, where the list is made of a function of the place.
use Rattle.std.proofs.Common.{◌≡◌, ℕ, zero, suc, ◌+◌, ◌<◌, ◌≤◌, Bool, true, false, not, List, [], ◌∷◌, map, replicate, None, refl, ◌∙◌, arith}
use Rattle.std.proofs.lemmas.Bool.{and_parts, and_from}
use Rattle.std.proofs.lemmas.Iterator.Adapters.{position_from-zero}
use Rattle.std.specs.List.{list_all, list_any, position_from, range_with_len}
use Rattle.machine_desc.specs.Rules.{first_failing}

-- where all pass, none fails

none_from : {A : Type 0} (test : A → Bool) (place : ℕ) (xs : List A) → list_all test xs ≡ true → position_from (λ x. not (test x)) place xs ≡ None
none_from test place [] all = refl
none_from test place (x ∷ xs) all =
    let parts = and_parts (test x) (list_all test xs) all in
    let here : test x ≡ true = parts.0 in
    rw here (none_from test (place + 1) xs parts.1)

pub none_fails : {A : Type 0} (test : A → Bool) (xs : List A) → list_all test xs ≡ true → first_failing test xs ≡ None
none_fails test xs all = position_from-zero (λ x. not (test x)) xs ∙ none_from test 0 xs all

-- what passes at each place passes in the list

pub each_passes : {A : Type 0} (test : A → Bool) (f : ℕ → A) (from count : ℕ) → ((i : ℕ) → from ≤ i → i < from + count → test (f i) ≡ true)
    → list_all test (map f (range_with_len from count)) ≡ true
each_passes test f from zero each = refl
each_passes test f from (suc count) each =
    and_from (test (f from)) (list_all test (map f (range_with_len (from + 1) count))) (each from (omega arith) (omega arith))
    (each_passes test f (from + 1) count (λ i behind below. each i (omega arith) (omega arith)))

pub none_passes : {A : Type 0} (test : A → Bool) (f : ℕ → A) (from count : ℕ) → ((i : ℕ) → from ≤ i → i < from + count → test (f i) ≡ false)
    → list_any test (map f (range_with_len from count)) ≡ false
none_passes test f from zero each = refl
none_passes test f from (suc count) each =
    let here : test (f from) ≡ false = each from (omega arith) (omega arith) in
    rw here (none_passes test f (from + 1) count (λ i behind below. each i (omega arith) (omega arith)))

pub copies_pass : {A : Type 0} (test : A → Bool) (count : ℕ) (x : A) → test x ≡ true → list_all test (replicate count x) ≡ true
copies_pass test zero x passes = refl
copies_pass test (suc count) x passes = and_from (test x) (list_all test (replicate count x)) passes (copies_pass test count x passes)
