-- What a test of each element says of each.
use Rattle.std.proofs.Common.{◌≡◌, Bool, true, List, [], ◌∷◌}
use Rattle.std.proofs.lemmas.Bool.{and_parts}
use Rattle.std.specs.List.{AllByRecursion, list_all}

pub each_true : {X : Type 0} (test : X → Bool) (xs : List X) → list_all test xs ≡ true → AllByRecursion (λ x. test x ≡ true) xs
each_true test [] all = tt
each_true test (x ∷ xs) all =
    let both = and_parts (test x) (list_all test xs) all in
    (both.0, each_true test xs both.1)
