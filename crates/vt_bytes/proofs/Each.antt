-- What holds of each element of a list, by recursion.
use Rattle.std.proofs.Common.{◌≡◌, ℕ, zero, suc, ◌<◌, List, [], ◌∷◌, ◌++◌, length, map, take, get_or, arith, subst, sym}
use Rattle.std.specs.List.{AllByRecursion}

-- a fact of each element from another
pub each_weaker : {X : Type 0} (P Q : X → Type 0) → ((x : X) → P x → Q x) → (xs : List X) → AllByRecursion P xs → AllByRecursion Q xs
each_weaker P Q f [] p = tt
each_weaker P Q f (x ∷ xs) p = (f x p.0, each_weaker P Q f xs p.1)

-- a fact of each element from two others
pub each_from : {X : Type 0} (P Q R : X → Type 0) → ((x : X) → P x → Q x → R x) → (xs : List X)
    → AllByRecursion P xs → AllByRecursion Q xs → AllByRecursion R xs
each_from P Q R f [] p q = tt
each_from P Q R f (x ∷ xs) p q = (f x p.0 q.0, each_from P Q R f xs p.1 q.1)

-- one more element at the end
pub each_push : {X : Type 0} (P : X → Type 0) (xs : List X) (x : X) → AllByRecursion P xs → P x → AllByRecursion P (xs ++ x ∷ [])
each_push P [] x p q = (q, tt)
each_push P (y ∷ xs) x p q = (p.0, each_push P xs x p.1 q)

-- two lists, one after the other
pub each_append : {X : Type 0} (P : X → Type 0) (xs ys : List X) → AllByRecursion P xs → AllByRecursion P ys → AllByRecursion P (xs ++ ys)
each_append P [] ys p q = q
each_append P (x ∷ xs) ys p q = (p.0, each_append P xs ys p.1 q)

-- the first of two lists, and the second
pub each_front : {X : Type 0} (P : X → Type 0) (xs ys : List X) → AllByRecursion P (xs ++ ys) → AllByRecursion P xs
each_front P [] ys p = tt
each_front P (x ∷ xs) ys p = (p.0, each_front P xs ys p.1)

pub each_back : {X : Type 0} (P : X → Type 0) (xs ys : List X) → AllByRecursion P (xs ++ ys) → AllByRecursion P ys
each_back P [] ys p = p
each_back P (x ∷ xs) ys p = each_back P xs ys p.1

-- an element in the midst
pub each_midst : {X : Type 0} (P : X → Type 0) (front : List X) (x : X) (back : List X) → AllByRecursion P (front ++ x ∷ back) → P x
each_midst P [] x back p = p.0
each_midst P (y ∷ front) x back p = each_midst P front x back p.1

-- the element at an index
pub each_at : {X : Type 0} (P : X → Type 0) (xs : List X) (k : ℕ) (other x : X) → k < length xs → x ≡ get_or xs k other
    → AllByRecursion P xs → P x
each_at P [] k other x l is p = absurd (omega arith)
each_at P (first ∷ xs) zero other x l is p = subst P (sym is) p.0
each_at P (first ∷ xs) (suc k) other x l is p = each_at P xs k other x (omega arith) is p.1

-- the first elements
pub each_take : {X : Type 0} (P : X → Type 0) (xs : List X) (k : ℕ) → AllByRecursion P xs → AllByRecursion P (take k xs)
each_take P [] zero p = tt
each_take P [] (suc k) p = tt
each_take P (x ∷ xs) zero p = tt
each_take P (x ∷ xs) (suc k) p = (p.0, each_take P xs k p.1)

-- a fact of each pair, from the other list's side
pub each_turned : {X Y : Type 0} (R : X → Y → Type 0) (xs : List X) (ys : List Y) → AllByRecursion (λ x. AllByRecursion (R x) ys) xs
    → AllByRecursion (λ y. AllByRecursion (λ x. R x y) xs) ys
each_turned R xs [] h = tt
each_turned R xs (y ∷ ys) h =
    let first = each_weaker (λ x. AllByRecursion (R x) (y ∷ ys)) (λ x. R x y) (λ x a. a.0) xs h in
    let rest = each_weaker (λ x. AllByRecursion (R x) (y ∷ ys)) (λ x. AllByRecursion (R x) ys) (λ x a. a.1) xs h in
    (first, each_turned R xs ys rest)

-- what holds of each element's image
pub each_map : {X Y : Type 0} (P : Y → Type 0) (f : X → Y) → ((x : X) → P (f x)) → (xs : List X) → AllByRecursion P (map f xs)
each_map P f all [] = tt
each_map P f all (x ∷ xs) = (all x, each_map P f all xs)
