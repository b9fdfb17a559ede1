-- Lists that are what a function gives of other lists, searched.
use Rattle.std.proofs.Common.{Bool, ◌≡◌, List, [], ◌∷◌, true, false, cond, map, Option, Some, option_map, refl, ap, sym, ◌∙◌}
use Rattle.std.specs.List.{find, list_all, list_any}
use Rattle.std.specs.Prelude.{◌||◌, ◌&&◌}

-- a test of what a function gives
pub any_of_mapped : {A B : Type 0} (test : B → Bool) (f : A → B) (xs : List A) → list_any test (map f xs) ≡ list_any (λ x. test (f x)) xs
any_of_mapped test f [] = refl
any_of_mapped test f (x ∷ xs) = ap (λ b. test (f x) || b) (any_of_mapped test f xs)

pub all_of_mapped : {A B : Type 0} (test : B → Bool) (f : A → B) (xs : List A) → list_all test (map f xs) ≡ list_all (λ x. test (f x)) xs
all_of_mapped test f [] = refl
all_of_mapped test f (x ∷ xs) = ap (λ b. test (f x) && b) (all_of_mapped test f xs)

option_map-cond : {A B : Type 0} (f : A → B) (is : Bool) (a : A) (more : Option A)
    → option_map f (cond is (Some a) more) ≡ cond is (Some (f a)) (option_map f more)
option_map-cond f true a more = refl
option_map-cond f false a more = refl

pub find_mapped : {A B : Type 0} (test : B → Bool) (f : A → B) (xs : List A) → find test (map f xs) ≡ option_map f (find (λ x. test (f x)) xs)
find_mapped test f [] = refl
find_mapped test f (x ∷ xs) =
    ap (λ more. cond (test (f x)) (Some (f x)) more) (find_mapped test f xs) ∙ sym (option_map-cond f (test (f x)) x (find (λ x. test (f x)) xs))
