-- The texts of a machine, part by part.
use Rattle.std.proofs.Common.{◌≡◌, ◌&&◌, Bool, List, [], ◌∷◌, refl, ap, ◌∙◌}
use Rattle.std.proofs.lemmas.List.Folds.{list_all-append}
use Rattle.std.specs.List.{list_all, flat_map}

-- all that parts have pass a test where all of each part pass it
pub all_of_each : {Part Item : Type 0} (test : Item → Bool) (items : Part → List Item) (parts : List Part)
    → list_all test (flat_map items parts) ≡ list_all (λ part. list_all test (items part)) parts
all_of_each test items [] = refl
all_of_each test items (part ∷ parts) =
    list_all-append test (items part) (flat_map items parts) ∙ ap (λ others. list_all test (items part) && others) (all_of_each test items parts)
