-- Lists in which each element passes a test and has a number that no earlier one has, where the list is made of a function of the place.
use Rattle.std.proofs.Common.{◌≡◌, ℕ, zero, suc, ◌+◌, ◌<◌, Bool, true, false, not, ◌&&◌, ◌==◌, ◌∷◌, map, take, None, refl, ap, ◌∙◌, subst, sym, arith}
use Rattle.std.proofs.lemmas.Bool.{and_from}
use Rattle.std.proofs.lemmas.List.FromFn.{take-map-range_with_len}
use Rattle.std.specs.List.{list_all, list_any, enumerate_from, range_with_len}
use Rattle.machine_desc.specs.Rules.{is_new, first_refused}
use Rattle.generated_machine.proofs.Lists.{none_fails, none_passes, each_passes}

-- each element with its place
placed : {A : Type 0} (f : ℕ → A) (from count : ℕ)
    → enumerate_from from (map f (range_with_len from count)) ≡ map (λ i. (i, f i)) (range_with_len from count)
placed f from zero = refl
placed f from (suc count) = ap (λ others. (from, f from) ∷ others) (placed f (from + 1) count)

new_at : {A : Type 0} (number : A → ℕ) (f : ℕ → A) (count i : ℕ) → i < count → ((j : ℕ) → j < i → (number (f j) == number (f i)) ≡ false)
    → is_new number (map f (range_with_len 0 count)) (i, f i) ≡ true
new_at {A} number f count i below differ =
    let same_number : A → Bool = λ e. number e == number (f i) in
    let earlier : take i (map f (range_with_len 0 count)) ≡ map f (range_with_len 0 i) = take-map-range_with_len f 0 count i (omega (arith, below)) in
    ap (λ elements. not (list_any same_number elements)) earlier
    ∙ ap not (none_passes same_number f 0 i (λ j behind before. differ j (omega (arith, before))))

pub all_taken : {A : Type 0} (test : A → Bool) (number : A → ℕ) (f : ℕ → A) (count : ℕ) → ((i : ℕ) → i < count → test (f i) ≡ true)
    → ((i j : ℕ) → j < i → i < count → (number (f j) == number (f i)) ≡ false)
    → first_refused test number (map f (range_with_len 0 count)) ≡ None
all_taken {A} test number f count passes differ =
    let elements = map f (range_with_len 0 count) in
    let taken : ℕ × A → Bool = λ e. test e.1 && is_new number elements e in
    none_fails taken (enumerate_from 0 elements)
    (subst (λ es. list_all taken es ≡ true) (sym (placed f 0 count))
    (each_passes taken (λ i. (i, f i)) 0 count
    (λ i behind below. and_from (test (f i)) (is_new number elements (i, f i)) (passes i (omega (arith, below)))
    (new_at number f count i (omega (arith, below)) (λ j before. differ i j before (omega (arith, below)))))))
