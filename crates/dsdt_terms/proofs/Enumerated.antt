-- What is made of the elements of a list and their places, one more at a time.
use Rattle.std.proofs.Common.{◌≡◌, ℕ, zero, suc, ◌+◌, ◌<◌, List, [], ◌∷◌, ◌++◌, length, map, take, get_or, arith, ap, sym, ◌∙◌, append_assoc}
use Rattle.std.specs.List.{enumerate_from}

more_from : {A B : Type 0} (f : ℕ × A → B) (from : ℕ) (elements : List A) (k : ℕ) (other : A) → k < length elements
    → map f (enumerate_from from (take (k + 1) elements)) ≡ map f (enumerate_from from (take k elements)) ++ f (from + k, get_or elements k other) ∷ []
more_from f from [] k other l = absurd (omega arith)
more_from f from (a ∷ elements) zero other l = let place : from ≡ from + 0 = omega arith in ap (λ n. f (n, a) ∷ []) place
more_from f from (a ∷ elements) (suc k) other l =
    let count : suc k + 1 ≡ suc (k + 1) = omega arith in
    let place : from + 1 + k ≡ from + suc k = omega arith in
    ap (λ n. map f (enumerate_from from (take n (a ∷ elements)))) count
    ∙ ap (λ more. f (from, a) ∷ more) (more_from f (from + 1) elements k other (omega arith))
    ∙ ap (λ n. map f (enumerate_from from (take (suc k) (a ∷ elements))) ++ f (n, get_or elements k other) ∷ []) place

-- behind those before it, what is made of the next element
pub one_pushed : {A B : Type 0} (f : ℕ × A → B) (old seen new : List B) (elements : List A) (k : ℕ) (other : A) (made : B) → k < length elements
    → seen ≡ old ++ map f (enumerate_from 0 (take k elements)) → made ≡ f (k, get_or elements k other) → new ≡ seen ++ made ∷ []
    → new ≡ old ++ map f (enumerate_from 0 (take (k + 1) elements))
one_pushed f old seen new elements k other made below was made_is is =
    let place : 0 + k ≡ k = omega arith in
    let front = map f (enumerate_from 0 (take k elements)) in
    is ∙ ap (λ b. seen ++ b ∷ []) made_is ∙ ap (λ those. those ++ f (k, get_or elements k other) ∷ []) was
    ∙ append_assoc old front (f (k, get_or elements k other) ∷ [])
    ∙ ap (λ more. old ++ more) (ap (λ n. front ++ f (n, get_or elements k other) ∷ []) (sym place) ∙ sym (more_from f 0 elements k other below))
