-- Elements of which none is refused pass the test, and each has a number of its own.
use Rattle.std.proofs.Common.{◌≡◌, ℕ, ◌+◌, ◌<◌, Bool, true, not, ◌==◌, List, length, get_or, take, None, ap, ◌∙◌, subst, arith}
use Rattle.std.proofs.lemmas.Bool.{and_parts, eq-eqb}
use Rattle.std.proofs.lemmas.List.{get_or-take, length-take-le}
use Rattle.std.proofs.lemmas.List.Elements.{All-get_or}
use Rattle.std.proofs.lemmas.List.Folds.{list_any_at}
use Rattle.std.proofs.lemmas.List.FromFn.{length-enumerate_from, get_or-enumerate_from}
use Rattle.std.proofs.lemmas.List.Sums.{AllPass-from_list_all}
use Rattle.std.specs.List.{list_any, enumerate_from}
use Rattle.machine_desc.specs.Rules.{is_new, first_refused}
use Rattle.machine_desc.specs.Numbers.{AreDistinct}
use Rattle.machine_desc.proofs.OwnNumbers.{is_taken}
use Rattle.machine_desc.proofs.Passing.{all_pass}

-- the element at a place is taken
taken_at : {A : Type 0} (test : A → Bool) (number : A → ℕ) (elements : List A) → first_refused test number elements ≡ None → (j : ℕ) (d : A)
    → j < length elements → is_taken test number elements (j, get_or elements j d) ≡ true
taken_at test number elements none j d within =
    let taken = is_taken test number elements in
    let placed = get_or-enumerate_from 0 elements j (0, d) within in
    let count = length-enumerate_from 0 elements in
    let all = AllPass-from_list_all taken (enumerate_from 0 elements) (all_pass taken (enumerate_from 0 elements) none) in
    let here = All-get_or (λ e. taken e ≡ true) (enumerate_from 0 elements) j (0, d) (omega (arith, within, count)) all in
    let place : 0 + j ≡ j = omega arith in
    subst (λ e. taken e ≡ true) (placed ∙ ap (λ i. (i, get_or elements j d)) place) here

not_old : (found : Bool) → not found ≡ true → found ≡ true → ⊥
not_old found new old = cc

pub all_distinct : {A : Type 0} (test : A → Bool) (number : A → ℕ) (elements : List A) → first_refused test number elements ≡ None
    → AreDistinct number elements
all_distinct {A} test number elements none i j d before within same =
    let x = get_or elements j d in
    let same_number : A → Bool = λ e. number e == number x in
    let new = (and_parts (test x) (is_new number elements (j, x)) (taken_at test number elements none j d within)).1 in
    let kept = get_or-take j elements i d before in
    let short : length (take j elements) ≡ j = length-take-le j elements (omega (arith, within)) in
    let here = eq-eqb (number (get_or (take j elements) i d)) (number x) (ap number kept ∙ same) in
    not_old (list_any same_number (take j elements)) new (list_any_at same_number (take j elements) i d (omega (arith, before, short)) here)
