-- A device of values that are pushed one after the other.
use Rattle.std.proofs.Common.{◌≡◌, ℕ, List, [], ◌∷◌, ◌++◌, Result, IfOk, ap, ◌∙◌, subst, append_assoc}
use Rattle.aml_terms.specs.declared.term.Term.{Term}
use Rattle.dsdt_terms.specs.Names.{device}

-- its values are those that it was made of
pub of_values : {E : Type 0} (made : Result Term E) (segment : List ℕ) (values others : List Term) → values ≡ others
    → IfOk made (λ term. term ≡ device segment values) → IfOk made (λ term. term ≡ device segment others)
of_values made segment values others same is = subst (λ those. IfOk made (λ term. term ≡ device segment those)) same is

-- two are pushed behind some, three, and four
pub two_pushed : (first one two before : List Term) (x y : Term) → first ≡ before → one ≡ first ++ x ∷ [] → two ≡ one ++ y ∷ []
    → two ≡ before ++ x ∷ y ∷ []
two_pushed first one two before x y was is_one is_two =
    is_two ∙ ap (λ those. those ++ y ∷ []) (is_one ∙ ap (λ those. those ++ x ∷ []) was) ∙ append_assoc before (x ∷ []) (y ∷ [])

pub three_pushed : (first one two three before : List Term) (x y z : Term) → first ≡ before → one ≡ first ++ x ∷ [] → two ≡ one ++ y ∷ []
    → three ≡ two ++ z ∷ [] → three ≡ before ++ x ∷ y ∷ z ∷ []
three_pushed first one two three before x y z was is_one is_two is_three =
    is_three ∙ ap (λ those. those ++ z ∷ []) (two_pushed first one two before x y was is_one is_two) ∙ append_assoc before (x ∷ y ∷ []) (z ∷ [])

pub four_pushed : (first one two three four before : List Term) (x y z w : Term) → first ≡ before → one ≡ first ++ x ∷ [] → two ≡ one ++ y ∷ []
    → three ≡ two ++ z ∷ [] → four ≡ three ++ w ∷ [] → four ≡ before ++ x ∷ y ∷ z ∷ w ∷ []
four_pushed first one two three four before x y z w was is_one is_two is_three is_four =
    is_four ∙ ap (λ those. those ++ w ∷ []) (three_pushed first one two three before x y z was is_one is_two is_three)
    ∙ append_assoc before (x ∷ y ∷ z ∷ []) (w ∷ [])
