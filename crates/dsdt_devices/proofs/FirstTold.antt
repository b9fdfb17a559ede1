-- What is told of the first of some of which anything is.
use Rattle.std.proofs.Common.{◌≡◌, List, [], ◌∷◌, ◌++◌, Option, Some, None, slice_get, refl, ap, ◌∙◌}
use Rattle.std.specs.List.{cons_option, filter_map}
use Rattle.std.specs.Option.{option_or}
use Rattle.dsdt_devices.specs.BusTerms.{first_told}

-- the first of three that is there
or_assoc : {X : Type 0} (a b c : Option X) → option_or a (option_or b c) ≡ option_or (option_or a b) c
or_assoc None b c = refl
or_assoc (Some x) b c = refl

-- of two lists, the first that tells anything
pub first_told-append : {A X : Type 0} (told : A → Option X) (xs ys : List A)
    → first_told told (xs ++ ys) ≡ option_or (first_told told xs) (first_told told ys)
first_told-append told [] ys = refl
first_told-append told (x ∷ xs) ys =
    ap (option_or (told x)) (first_told-append told xs ys) ∙ or_assoc (told x) (first_told told xs) (first_told told ys)

-- it is the first of all that is told
or_first : {X : Type 0} (one : Option X) (those : List X) (others : Option X) → others ≡ slice_get those 0
    → option_or one others ≡ slice_get (cons_option one those) 0
or_first None those others is = is
or_first (Some x) those others is = refl

-- of a whole list
pub first_told-filter_map : {A X : Type 0} (told : A → Option X) (xs : List A) → first_told told xs ≡ slice_get (filter_map told xs) 0
first_told-filter_map told [] = refl
first_told-filter_map told (x ∷ xs) = or_first (told x) (filter_map told xs) (first_told told xs) (first_told-filter_map told xs)
