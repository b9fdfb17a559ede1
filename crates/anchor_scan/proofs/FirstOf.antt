-- The first thing of the forms that are looked for: of one form, and of two.
use Rattle.std.proofs.Common.{◌≡◌, ℕ, ◌<◌, ◌≤◌, ◌⊎◌, inl, inr, ⊎_elim, Option, Some, None, MatchOption, refl, arith, sym, subst}
use Rattle.anchor_scan.specs.Shown.{IsLeast}
use Rattle.anchor_scan.specs.First.{IsFirstOf}

-- the least of a form is the first of that form alone
pub first_of_one : {F : Type 0} (Stands : F → ℕ → Type 0) (form : F) (address : ℕ) → IsLeast (Stands form) address
    → IsFirstOf (λ other. other ≡ form) Stands form address
first_of_one Stands form address least = record {
  sought = refl;
  stands = least.0;
  first = λ other same below is_below stands. least.1 below is_below (subst (λ f. Stands f below) same stands);
}

pub none_of_one : {F : Type 0} (Stands : F → ℕ → Type 0) (form : F) → ((address : ℕ) → Stands form address → ⊥) → (other : F) → other ≡ form
    → (address : ℕ) → Stands other address → ⊥
none_of_one Stands form none other same address stands = none address (subst (λ f. Stands f address) same stands)

-- the first of some forms is the least of its own
pub least_of_its_form : {F : Type 0} (IsSought : F → Type 0) (Stands : F → ℕ → Type 0) (form : F) (address : ℕ)
    → IsFirstOf IsSought Stands form address → IsLeast (Stands form) address
least_of_its_form IsSought Stands form address is = (is.stands, λ other below stands. is.first form is.sought other below stands)

-- two forms are looked for, and no other
pub record AreAll {F : Type 0} (IsSought : F → Type 0) (a b : F) : Type 0 where
  pub one : IsSought a
  pub other : IsSought b
  pub all : (form : F) → IsSought form → (form ≡ a) ⊎ (form ≡ b)

pub turned : {F : Type 0} (IsSought : F → Type 0) (a b : F) → AreAll IsSought a b → AreAll IsSought b a
turned IsSought a b both =
    record { one = both.other; other = both.one; all = λ form sought. ⊎_elim (λ same. inr same) (λ same. inl same) (both.all form sought) }

-- the first of one of them is the first of both where nothing of the other stands below it
first_of_two : {F : Type 0} (IsSought : F → Type 0) (Stands : F → ℕ → Type 0) (a b form : F) (address : ℕ) → AreAll IsSought a b
    → IsFirstOf (λ other. other ≡ a) Stands form address
    → ((other : F) → other ≡ b → (below : ℕ) → below < address → Stands other below → ⊥) → IsFirstOf IsSought Stands form address
first_of_two IsSought Stands a b form address both is none = record {
  sought = subst IsSought (sym is.sought) both.one;
  stands = is.stands;
  first = λ other sought below is_below stands.
      ⊎_elim (λ same. is.first other same below is_below stands) (λ same. none other same below is_below stands) (both.all other sought);
}

pub lower_of_two : {F : Type 0} (IsSought : F → Type 0) (Stands : F → ℕ → Type 0) (a b f g : F) (p q : ℕ) → AreAll IsSought a b
    → IsFirstOf (λ other. other ≡ a) Stands f p → IsFirstOf (λ other. other ≡ b) Stands g q → p ≤ q → IsFirstOf IsSought Stands f p
lower_of_two IsSought Stands a b f g p q both is also lower =
    first_of_two IsSought Stands a b f p both is (λ other same below is_below stands. also.first other same below (omega arith) stands)

-- where nothing of the other stands, what was found of one is what there is of both
pub only_of_two : {F X : Type 0} (IsSought : F → Type 0) (Stands : F → ℕ → Type 0) (form_of : X → F) (address_of : X → ℕ) (a b : F) (found : Option X)
    → AreAll IsSought a b
    → MatchOption found ((form : F) → form ≡ a → (address : ℕ) → Stands form address → ⊥)
    (λ x. IsFirstOf (λ other. other ≡ a) Stands (form_of x) (address_of x))
    → ((form : F) → form ≡ b → (address : ℕ) → Stands form address → ⊥)
    → MatchOption found ((form : F) → IsSought form → (address : ℕ) → Stands form address → ⊥)
    (λ x. IsFirstOf IsSought Stands (form_of x) (address_of x))
only_of_two IsSought Stands form_of address_of a b None both is none =
    λ form sought address stands.
    ⊎_elim (λ same. is form same address stands) (λ same. none form same address stands) (both.all form sought)
only_of_two IsSought Stands form_of address_of a b (Some x) both is none =
    first_of_two IsSought Stands a b (form_of x) (address_of x) both is (λ other same below is_below stands. none other same below stands)
