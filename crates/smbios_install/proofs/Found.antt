-- The one of a name, in a list of which some are changed or one is added.
use Rattle.std.proofs.Common.{◌≡◌, ◌≢◌, Bool, true, false, cond, inl, inr, List, [], ◌∷◌, ◌++◌, map, find, Some, None, option_map}
use Rattle.std.proofs.Common.{refl, ap, sym, ◌∙◌, ℕ}
use Rattle.std.specs.Str.{bytes_eq}
use Rattle.std.proofs.lemmas.Bool.{cases_Bool, cond-true, cond-false}
use Rattle.std.proofs.lemmas.Option.{none-some}
use Rattle.vt_outside.proofs.Texts.{same_text, other_text}

-- one that has a name is changed
abbrev pub changed : {X : Type 0} → (X → List ℕ) → (X → X) → List ℕ → X → X
changed name_of g name x = cond (bytes_eq (name_of x) name) (g x) x

-- it keeps its name
pub name-changed : {X : Type 0} (name_of : X → List ℕ) (g : X → X) → ((x : X) → name_of (g x) ≡ name_of x) → (name : List ℕ) (x : X)
    → name_of (changed name_of g name x) ≡ name_of x
name-changed name_of g keeps name x =
    elim (bytes_eq (name_of x) name) as (λ same. name_of (cond same (g x) x) ≡ name_of x) [ true ↦ keeps x | false ↦ refl ]

-- the one of another name stays
pub find-other : {X : Type 0} (name_of : X → List ℕ) (g : X → X) → ((x : X) → name_of (g x) ≡ name_of x) → (dest name : List ℕ) → dest ≢ name
    → (xs : List X)
    → find (λ x. bytes_eq (name_of x) name) (map (changed name_of g dest) xs) ≡ find (λ x. bytes_eq (name_of x) name) xs
find-other name_of g keeps dest name differ [] = refl
find-other name_of g keeps dest name differ (x ∷ xs) =
    elim (cases_Bool (bytes_eq (name_of x) name)) as
    (λ _. find (λ y. bytes_eq (name_of y) name) (map (changed name_of g dest) (x ∷ xs)) ≡ find (λ y. bytes_eq (name_of y) name) (x ∷ xs)) [
      | inl same ↦
          let other : bytes_eq (name_of x) dest ≡ false =
          ap (λ n. bytes_eq n dest) (same_text (name_of x) name same) ∙ other_text name dest (λ is. differ (sym is)) in
          let stays : changed name_of g dest x ≡ x = cond-false _ _ _ other in
          cond-true _ _ _ (ap (λ y. bytes_eq (name_of y) name) stays ∙ same) ∙ ap Some stays ∙ sym (cond-true _ _ _ same)
      | inr differs ↦
          cond-false _ _ _ (ap (λ n. bytes_eq n name) (name-changed name_of g keeps dest x) ∙ differs)
          ∙ find-other name_of g keeps dest name differ xs ∙ sym (cond-false _ _ _ differs)
    ]

-- the one of this name is changed
pub find-own : {X : Type 0} (name_of : X → List ℕ) (g : X → X) → ((x : X) → name_of (g x) ≡ name_of x) → (dest : List ℕ) (xs : List X)
    → find (λ x. bytes_eq (name_of x) dest) (map (changed name_of g dest) xs) ≡ option_map g (find (λ x. bytes_eq (name_of x) dest) xs)
find-own name_of g keeps dest [] = refl
find-own name_of g keeps dest (x ∷ xs) =
    elim (cases_Bool (bytes_eq (name_of x) dest)) as
    (λ _. find (λ y. bytes_eq (name_of y) dest) (map (changed name_of g dest) (x ∷ xs))
    ≡ option_map g (find (λ y. bytes_eq (name_of y) dest) (x ∷ xs))) [
      | inl same ↦
          cond-true _ _ _ (ap (λ n. bytes_eq n dest) (name-changed name_of g keeps dest x) ∙ same) ∙ ap Some (cond-true _ _ _ same)
          ∙ sym (ap (option_map g) (cond-true (bytes_eq (name_of x) dest) (Some x) (find (λ y. bytes_eq (name_of y) dest) xs) same))
      | inr differs ↦
          cond-false _ _ _ (ap (λ n. bytes_eq n dest) (name-changed name_of g keeps dest x) ∙ differs)
          ∙ find-own name_of g keeps dest xs
          ∙ sym (ap (option_map g) (cond-false (bytes_eq (name_of x) dest) (Some x) (find (λ y. bytes_eq (name_of y) dest) xs) differs))
    ]

-- one more at the end, which is found where none was
pub find-last : {X : Type 0} (test : X → Bool) (xs : List X) (x : X) → find test xs ≡ None → test x ≡ true → find test (xs ++ x ∷ []) ≡ Some x
find-last test [] x none passes = cond-true _ _ _ passes
find-last test (y ∷ ys) x none passes =
    elim (cases_Bool (test y)) as (λ _. find test ((y ∷ ys) ++ x ∷ []) ≡ Some x) [
      | inl first ↦ absurd (none-some y (sym none ∙ cond-true _ _ _ first))
      | inr fails ↦ cond-false _ _ _ fails ∙ find-last test ys x (sym (cond-false _ _ _ fails) ∙ none) passes
    ]

-- and is of no account where it fails
pub find-before : {X : Type 0} (test : X → Bool) (xs : List X) (x : X) → test x ≡ false → find test (xs ++ x ∷ []) ≡ find test xs
find-before test [] x fails = cond-false _ _ _ fails
find-before test (y ∷ ys) x fails =
    elim (test y) as (λ passes. cond passes (Some y) (find test (ys ++ x ∷ [])) ≡ cond passes (Some y) (find test ys)) [
      | true ↦ refl
      | false ↦ find-before test ys x fails
    ]
