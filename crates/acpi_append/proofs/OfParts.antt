-- Facts of the parts that a machine has.
use Rattle.std.proofs.Common.{◌≡◌, Option, Some, subst, sym}
use Rattle.std.specs.Option.{IsSomeAnd}

pub of_part : {A : Type 0} (P : A → Type 0) (part : Option A) (a : A) → part ≡ Some a → P a → IsSomeAnd part P
of_part P part a is p = subst (λ some. IsSomeAnd some P) (sym is) p

pub of_parts : {A B : Type 0} (P : A → B → Type 0) (part : Option A) (other : Option B) (a : A) (b : B) → part ≡ Some a → other ≡ Some b → P a b
    → IsSomeAnd part (λ x. IsSomeAnd other (P x))
of_parts P part other a b is other_is p = of_part (λ x. IsSomeAnd other (P x)) part a is (of_part (P a) other b other_is p)
