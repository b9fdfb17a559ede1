-- The file that has a name.
use Rattle.std.proofs.Common.{◌≡◌, ◌≢◌, Bool, true, false, cond, List, [], ◌∷◌, map, Option, Some, None, IsSome, IsNone, is_some, inl, inr, subst}
use Rattle.std.proofs.Common.{option_map, find, refl, ap, sym, ◌∙◌}
use Rattle.std.specs.List.{AllByRecursion}
use Rattle.std.proofs.lemmas.Bool.{cases_Bool, cond-true, cond-false, true≢false}
use Rattle.std.proofs.lemmas.Option.{same_Some, none-some}

-- what is there after a map was there before
pub IsSome-before_map : {A B : Type 0} (f : A → B) (o : Option A) → IsSome (option_map f o) → IsSome o
IsSome-before_map f None some = some
IsSome-before_map f (Some x) some = refl

-- what isn't there after a map wasn't there before
pub IsNone-before_map : {A B : Type 0} (f : A → B) (o : Option A) → IsNone (option_map f o) → IsNone o
IsNone-before_map f None none = none
IsNone-before_map f (Some x) none = none

-- the first element that passes, of mapped elements
pub find-map : {A B : Type 0} (f : A → B) (test : B → Bool) (xs : List A) → find test (map f xs) ≡ option_map f (find (λ x. test (f x)) xs)
find-map f test [] = refl
find-map f test (x ∷ xs) =
    elim (test (f x)) as (λ passes. cond passes (Some (f x)) (find test (map f xs)) ≡ option_map f (cond passes (Some x) (find (λ y. test (f y)) xs))) [
      | true ↦ refl
      | false ↦ find-map f test xs
    ]

-- what holds of each element holds of the one that is found
pub of_found : {A : Type 0} (P : A → Type 0) (test : A → Bool) (xs : List A) (x : A) → find test xs ≡ Some x → AllByRecursion P xs → P x
of_found P test [] x found all = absurd (none-some x found)
of_found P test (y ∷ ys) x found all =
    elim (cases_Bool (test y)) as (λ _. P x) [
      | inl passes ↦ subst P (same_Some y x (sym (cond-true _ _ _ passes) ∙ found)) all.0
      | inr fails ↦ of_found P test ys x (sym (cond-false _ _ _ fails) ∙ found) all.1
    ]

-- the one that is found passes
pub found_passes : {A : Type 0} (test : A → Bool) (xs : List A) (x : A) → find test xs ≡ Some x → test x ≡ true
found_passes test [] x found = absurd (none-some x found)
found_passes test (y ∷ ys) x found =
    elim (cases_Bool (test y)) as (λ _. test x ≡ true) [
      | inl passes ↦ subst (λ z. test z ≡ true) (same_Some y x (sym (cond-true _ _ _ passes) ∙ found)) passes
      | inr fails ↦ found_passes test ys x (sym (cond-false _ _ _ fails) ∙ found)
    ]

-- where none is found each element fails
pub none_passes : {A : Type 0} (test : A → Bool) (xs : List A) → IsNone (find test xs) → AllByRecursion (λ x. test x ≡ false) xs
none_passes test [] none = tt
none_passes test (y ∷ ys) none =
    elim (cases_Bool (test y)) as (λ _. AllByRecursion (λ x. test x ≡ false) (y ∷ ys)) [
      | inl passes ↦ absurd (true≢false (ap is_some (sym (cond-true _ (Some y) (find test ys) passes)) ∙ none))
      | inr fails ↦ (fails, none_passes test ys (ap is_some (sym (cond-false _ (Some y) (find test ys) fails)) ∙ none))
    ]
