-- What is told of the front of a list, with one more element.
use Rattle.std.proofs.Common.{◌≡◌, ℕ, suc, ◌+◌, ◌<◌, List, [], ◌∷◌, ◌++◌, length, take, get_or, Option, Some, None, refl, arith, ap, ◌∙◌}
use Rattle.std.specs.List.{filter_map}
use Rattle.std.specs.Option.{option_to_list}
use Rattle.std.proofs.Math.Seq.{take-suc}
use Rattle.std.proofs.lemmas.List.Elements.{filter_map-append}

one_told : {A Part : Type 0} (told : A → Option Part) (a : A) (part : Option Part) → told a ≡ part → filter_map told (a ∷ []) ≡ option_to_list part
one_told told a None is = cc
one_told told a (Some part) is = cc

pub next_number : (n : ℕ) → n + 1 ≡ suc n
next_number n = omega arith

pub one_more : {A Part : Type 0} (told : A → Option Part) (all : List A) (place : ℕ) (none : A) → place < length all
    → filter_map told (take (place + 1) all) ≡ filter_map told (take place all) ++ option_to_list (told (get_or all place none))
one_more told all place none within =
    let next = get_or all place none in
    ap (λ n. filter_map told (take n all)) (next_number place) ∙ ap (filter_map told) (take-suc all place none within)
    ∙ filter_map-append told (take place all) (next ∷ [])
    ∙ ap (λ last. filter_map told (take place all) ++ last) (one_told told next (told next) refl)
