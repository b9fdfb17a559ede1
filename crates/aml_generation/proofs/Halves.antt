-- A package of the two halves of an address.
use Rattle.std.proofs.Common.{◌≡◌, ℕ, ◌<◌, ◌≤◌, List, [], ◌∷◌, length, is_some, Bool, true, Option, None, slice_set, refl, sym, ap, ap₂, ◌∙◌, arith}
use Rattle.std.proofs.lemmas.Bool.{cond-true}
use Rattle.aml_terms.specs.declared.term.Term.{Term}
use Rattle.aml_terms.specs.declared.term.Term.TheVariants as t
use Rattle.aml_terms.specs.Trees.{Tree, pack, no_trees, tree, views}
use Rattle.aml_generation.specs.Generation.{address_of, zeros, taken_of_value}
use Rattle.aml_generation.proofs.Views.{view-int}

-- other than two values tell no address
pub none_of_few : (values : List Term) → length values < 2 → None ≡ address_of (pack (views values))
none_of_few [] few = refl
none_of_few (value ∷ []) few = refl
none_of_few (low ∷ high ∷ others) few = absurd (omega arith)

pub none_of_many : (values : List Term) → 3 ≤ length values → None ≡ address_of (pack (views values))
none_of_many [] many = refl
none_of_many (value ∷ []) many = refl
none_of_many (low ∷ high ∷ []) many = absurd (omega arith)
none_of_many (low ∷ high ∷ more ∷ others) many = refl

-- Values that tell an address are two, and zeros are put in the place of both, one after the other.
pub record ArePut (values once : List Term) (told : Option ℕ) : Type 0 where
  pub two : length once ≡ 2
  pub put : ◌≡◌ {A = Option ℕ × Tree} (told, pack (views (slice_set once 1 (t.Int 0)))) (taken_of_value (pack (views values)))

both_put : (values once : List Term) (told : Option ℕ) → told ≡ address_of (pack (views values)) → is_some told ≡ true
    → once ≡ slice_set values 0 (t.Int 0) → ArePut values once told
both_put [] once told tells some is = cc
both_put (value ∷ []) once told tells some is = cc
both_put (low ∷ high ∷ []) once told tells some is =
    let seen : Tree = pack (views (low ∷ high ∷ [])) in
    let packed : is_some (address_of seen) ≡ true = ap is_some (sym tells) ∙ some in
    record {
      two = ap length is;
      put =
          ap₂ (λ (a : Option ℕ) (u : Tree). (a, u)) tells
          (ap (λ (left : List Term). pack (views (slice_set left 1 (t.Int 0)))) is
          ∙ ap₂ (λ (a b : Tree). pack (tree a (tree b no_trees))) (view-int 0) (view-int 0)
          ∙ sym (cond-true (is_some (address_of seen)) zeros seen packed));
    }
both_put (low ∷ high ∷ more ∷ others) once told tells some is = cc

-- the same of values as they are read, with the test that they tell one
pub zeros_put : (values given once : List Term) (told : Option ℕ) (test : Bool) → given ≡ values → told ≡ address_of (pack (views given))
    → test ≡ is_some told → test ≡ true → once ≡ slice_set values 0 (t.Int 0) → ArePut values once told
zeros_put values given once told test same tells tests held is =
    both_put values once told (tells ∙ ap (λ (ts : List Term). address_of (pack (views ts))) same) (sym tests ∙ held) is
