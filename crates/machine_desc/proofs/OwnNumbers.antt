-- Lists in which each element has a number of its own, one element after the other.
use Rattle.std.proofs.Common.{◌≡◌, ℕ, ◌+◌, ◌<◌, ◌≤◌, Bool, true, false, not, ◌&&◌, ◌||◌, ◌==◌, List, [], ◌∷◌, length, get_or, take, drop, Option}
use Rattle.std.proofs.Common.{Some, None, nat_lt, refl, sym, ap, ◌∙◌, subst, arith}
use Rattle.std.proofs.lemmas.Bool.{and_parts, and_from, ltb-true, lt-ltb, ne_eqb}
use Rattle.std.proofs.lemmas.Iterator.Adapters.{position_from-zero}
use Rattle.std.proofs.lemmas.List.{at_drop_more, at_drop_all}
use Rattle.std.proofs.lemmas.List.Folds.{list_all_more}
use Rattle.std.specs.List.{list_all, list_any, enumerate_from, position_from}
use Rattle.machine_desc.specs.Rules.{is_new, first_refused}

-- an element at its place passes the test, and has a number of its own
abbrev pub is_taken : {A : Type 0} → (A → Bool) → (A → ℕ) → List A → ℕ × A → Bool
is_taken test number elements e = test e.1 && is_new number elements e

-- the place of the first element that is refused of those that are left, where places count from a number
abbrev pub refused_from : {A : Type 0} → (A → Bool) → (A → ℕ) → List A → ℕ → List A → Option ℕ
refused_from test number elements i left = position_from (λ e. not (is_taken test number elements e)) i (enumerate_from i left)

refused_is : {A : Type 0} (test : A → Bool) (number : A → ℕ) (elements : List A)
    → refused_from test number elements 0 elements ≡ first_refused test number elements
refused_is test number elements = sym (position_from-zero (λ e. not (is_taken test number elements e)) (enumerate_from 0 elements))

-- the next element is refused, or isn't

next_is : {A : Type 0} (test : A → Bool) (number : A → ℕ) (elements : List A) (i : ℕ) (x : A) → i < length elements → x ≡ get_or elements i x
    → refused_from test number elements i (drop i elements) ≡ refused_from test number elements i (x ∷ drop (i + 1) elements)
next_is test number elements i x within here =
    at_drop_more (refused_from test number elements i) elements i x within
    ∙ ap (λ e. refused_from test number elements i (e ∷ drop (i + 1) elements)) (sym here)

refused_here : {A : Type 0} (test : A → Bool) (number : A → ℕ) (elements : List A) (i : ℕ) (x : A) → i < length elements → x ≡ get_or elements i x
    → is_taken test number elements (i, x) ≡ false → refused_from test number elements i (drop i elements) ≡ Some i
refused_here test number elements i x within here refused = next_is test number elements i x within here ∙ rw refused refl

pub taken_here : {A : Type 0} (test : A → Bool) (number : A → ℕ) (elements : List A) (i : ℕ) (x : A) → i < length elements → x ≡ get_or elements i x
    → is_taken test number elements (i, x) ≡ true
    → refused_from test number elements (i + 1) (drop (i + 1) elements) ≡ refused_from test number elements i (drop i elements)
taken_here test number elements i x within here taken = sym (next_is test number elements i x within here ∙ rw taken refl)

-- no element is left
none_refused : {A : Type 0} (test : A → Bool) (number : A → ℕ) (elements : List A) (i : ℕ) → length elements ≤ i
    → refused_from test number elements i (drop i elements) ≡ None
none_refused test number elements i past = at_drop_all (refused_from test number elements i) elements i past

-- so the first element that is refused is this one, or there is none

pub first_refused_here : {A : Type 0} (test : A → Bool) (number : A → ℕ) (elements : List A) (i : ℕ) (x : A) → i < length elements
    → x ≡ get_or elements i x → is_taken test number elements (i, x) ≡ false
    → refused_from test number elements i (drop i elements) ≡ refused_from test number elements 0 elements
    → Some i ≡ first_refused test number elements
first_refused_here test number elements i x within here refused so_far =
    sym (refused_here test number elements i x within here refused) ∙ so_far ∙ refused_is test number elements

pub nothing_refused : {A : Type 0} (test : A → Bool) (number : A → ℕ) (elements : List A) (i : ℕ) → length elements ≤ i
    → refused_from test number elements i (drop i elements) ≡ refused_from test number elements 0 elements
    → None ≡ first_refused test number elements
nothing_refused test number elements i past so_far =
    sym (none_refused test number elements i past) ∙ so_far ∙ refused_is test number elements

-- the numbers of elements are below one
abbrev pub are_below : {A : Type 0} → (A → ℕ) → ℕ → List A → Bool
are_below number above elements = list_all (λ e. nat_lt (number e) above) elements

raised : {A : Type 0} (number : A → ℕ) (low high : ℕ) (elements : List A) → low ≤ high → are_below number low elements ≡ true
    → are_below number high elements ≡ true
raised number low high [] raise below = refl
raised number low high (x ∷ xs) raise below =
    let parts = and_parts (nat_lt (number x) low) (are_below number low xs) below in
    and_from (nat_lt (number x) high) (are_below number high xs)
    (lt-ltb (number x) high (omega (arith, raise, ltb-true (number x) low parts.0))) (raised number low high xs raise parts.1)

-- and so are those of one element more
pub one_more_below : {A : Type 0} (number : A → ℕ) (low high : ℕ) (elements : List A) (i : ℕ) (x : A) → i < length elements → x ≡ get_or elements i x
    → low ≤ high → number x < high → are_below number low (take i elements) ≡ true → are_below number high (take (i + 1) elements) ≡ true
one_more_below number low high elements i x within here raise small below =
    list_all_more (λ e. nat_lt (number e) high) elements i x within
    ∙ and_from (are_below number high (take i elements)) (nat_lt (number (get_or elements i x)) high)
    (raised number low high (take i elements) raise below) (lt-ltb (number (get_or elements i x)) high (subst (λ e. number e < high) here small))

neither : (a b : Bool) → a ≡ false → b ≡ false → (a || b) ≡ false
neither a b no_a no_b = rw (no_a, no_b) refl

-- elements whose numbers are below one don't have a number that isn't
pub none_has : {A : Type 0} (number : A → ℕ) (above n : ℕ) (elements : List A) → are_below number above elements ≡ true → above ≤ n
    → list_any (λ e. number e == n) elements ≡ false
none_has number above n [] below past = refl
none_has number above n (x ∷ xs) below past =
    let parts = and_parts (nat_lt (number x) above) (are_below number above xs) below in
    neither (number x == n) (list_any (λ e. number e == n) xs)
    (ne_eqb (number x) n (λ same. absurd (omega (arith, same, past, ltb-true (number x) above parts.0))))
    (none_has number above n xs parts.1 past)

-- what makes an element refused or taken: its own test, and the numbers of those before it

pub unlawful_refused : {A : Type 0} (test : A → Bool) (number : A → ℕ) (elements : List A) (i : ℕ) (x : A) → test x ≡ false
    → is_taken test number elements (i, x) ≡ false
unlawful_refused test number elements i x unlawful = rw unlawful refl

second_fails : (a b : Bool) → b ≡ false → (a && b) ≡ false
second_fails true b fails = fails
second_fails false b fails = refl

pub old_refused : {A : Type 0} (test : A → Bool) (number : A → ℕ) (elements : List A) (i : ℕ) (x : A) → is_new number elements (i, x) ≡ false
    → is_taken test number elements (i, x) ≡ false
old_refused test number elements i x old = second_fails (test x) (is_new number elements (i, x)) old

pub new_taken : {A : Type 0} (test : A → Bool) (number : A → ℕ) (elements : List A) (i : ℕ) (x : A) → test x ≡ true
    → is_new number elements (i, x) ≡ true → is_taken test number elements (i, x) ≡ true
new_taken test number elements i x lawful fresh = and_from (test x) (is_new number elements (i, x)) lawful fresh

-- the test whether an element is new, where its number was taken first
pub new_is : {A : Type 0} (number : A → ℕ) (elements : List A) (i n : ℕ) (x : A) (fresh : Bool) → n ≡ number x
    → fresh ≡ not (list_any (λ e. number e == n) (take i elements)) → is_new number elements (i, x) ≡ fresh
new_is number elements i n x fresh same is =
    ap (λ other. not (list_any (λ e. number e == other) (take i elements))) (sym same) ∙ sym is
