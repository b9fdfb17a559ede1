-- What is told of lists of terms: of lists one after the other, and of those that tell nothing.
use Rattle.std.proofs.Common.{◌≡◌, Bool, true, false, List, [], ◌∷◌, ◌++◌, map, Option, Some, None, option_map, refl, ap, ap₂, ◌∙◌, append-nil}
use Rattle.std.specs.Prelude.{option_to_list}
use Rattle.std.specs.List.{cons_option, filter_map}
use Rattle.std.proofs.lemmas.List.{map-append}
use Rattle.std.proofs.lemmas.List.Elements.{filter_map-append}
use Rattle.aml_terms.specs.declared.term.Term.{Term}
use Rattle.aml_terms.specs.Trees.{Tree, view}
use Rattle.dsdt_terms.specs.Dsdt.{if_there}

-- all that is told of terms, in order
abbrev pub told_of : {X : Type 0} → (Tree → Option X) → List Term → List X
told_of told ts = filter_map told (map view ts)

-- two lists, of which both are known
pub joined : {X : Type 0} (told : Tree → Option X) (ts us : List Term) (xs ys : List X) → told_of told ts ≡ xs → told_of told us ≡ ys
    → told_of told (ts ++ us) ≡ xs ++ ys
joined told ts us xs ys first others =
    ap (filter_map told) (map-append view ts us) ∙ filter_map-append told (map view ts) (map view us) ∙ ap₂ (λ those more. those ++ more) first others

-- and of which the second tells nothing
pub before_none : {X : Type 0} (told : Tree → Option X) (ts us : List Term) (those : List X) → told_of told ts ≡ those → told_of told us ≡ []
    → told_of told (ts ++ us) ≡ those
before_none told ts us those some none = joined told ts us those [] some none ∙ append-nil those

-- terms of one kind of which nothing is told
pub none_of_each : {A X : Type 0} (told : Tree → Option X) (f : A → Term) → ((a : A) → told (view (f a)) ≡ None) → (parts : List A)
    → told_of told (map f parts) ≡ []
none_of_each told f none [] = refl
none_of_each told f none (a ∷ parts) = ap₂ cons_option (none a) (none_of_each told f none parts)

-- a part that may be there
pub none_of_part : {A X : Type 0} (told : Tree → Option X) (f : A → Term) → ((a : A) → told (view (f a)) ≡ None) → (part : Option A)
    → told_of told (option_to_list (option_map f part)) ≡ []
none_of_part told f none None = refl
none_of_part told f none (Some a) = ap (λ one. cons_option one []) (none a)

-- a device that is there or isn't
pub none_if_there : {X : Type 0} (told : Tree → Option X) (t : Term) → told (view t) ≡ None → (there : Bool) → told_of told (if_there there t) ≡ []
none_if_there told t none true = ap (λ one. cons_option one []) none
none_if_there told t none false = refl

-- one that may be there, and tells something
pub one_of_part : {A X : Type 0} (told : Tree → Option X) (f : A → Term) (g : A → X) → ((a : A) → told (view (f a)) ≡ Some (g a)) → (part : Option A)
    → told_of told (option_to_list (option_map f part)) ≡ option_to_list (option_map g part)
one_of_part told f g some None = refl
one_of_part told f g some (Some a) = ap (λ one. cons_option one []) (some a)

-- what a device that is there or isn't tells
abbrev pub if_told : {X : Type 0} → Bool → X → List X
if_told true x = x ∷ []
if_told false x = []

-- where it is told by its device
pub one_if_there : {X : Type 0} (told : Tree → Option X) (t : Term) (x : X) → told (view t) ≡ Some x → (there : Bool)
    → told_of told (if_there there t) ≡ if_told there x
one_if_there told t x some true = ap (λ one. cons_option one []) some
one_if_there told t x some false = refl
