-- The parts that the structures at the front of a list tell, and the first part of all.
use Rattle.std.proofs.Common.{◌≡◌, ℕ, suc, ◌+◌, ◌<◌, List, [], ◌∷◌, ◌++◌, length, take, drop, get_or, Option, Some, None, slice_get, refl, ap, sym, ◌∙◌}
use Rattle.std.specs.List.{cons_option}
use Rattle.std.specs.Option.{option_to_list}
use Rattle.std.proofs.Math.Seq.{split_at}
use Rattle.std.proofs.lemmas.List.{take_more}
use Rattle.std.proofs.lemmas.List.Elements.{filter_map-append}
use Rattle.smbios_model.specs.declared.smbios.Body.{Body}
use Rattle.smbios_model.specs.declared.smbios.Structure.{Structure}
use Rattle.smbios_model.specs.ToldParts.{all_told}

-- a part in front of none
one_told : {Part : Type 0} (part : Option Part) → cons_option part [] ≡ option_to_list part
one_told None = refl
one_told (Some part) = refl

-- what two lists of structures tell
told_after : {Part : Type 0} (told : Body → Option Part) (front back : List Structure)
    → all_told told (front ++ back) ≡ all_told told front ++ all_told told back
told_after told front back = filter_map-append (λ (s : Structure). told s.body) front back

-- one more structure tells what its body does
pub told_more : {Part : Type 0} (told : Body → Option Part) (structures : List Structure) (k : ℕ) (s other : Structure) → k < length structures
    → s ≡ get_or structures k other
    → all_told told (take (k + 1) structures) ≡ all_told told (take k structures) ++ option_to_list (told s.body)
told_more told structures k s other within is =
    ap (all_told told) (take_more structures k other within ∙ ap (λ next. take k structures ++ next ∷ []) (sym is))
    ∙ told_after told (take k structures) (s ∷ [])
    ∙ ap (λ last. all_told told (take k structures) ++ last) (one_told (told s.body))

-- where no part is told up to a structure, and its body tells none, none is told with it
pub none_more : {Part : Type 0} (told : Body → Option Part) (structures : List Structure) (k : ℕ) (s other : Structure) → k < length structures
    → s ≡ get_or structures k other → all_told told (take k structures) ≡ [] → told s.body ≡ None
    → all_told told (take (k + 1) structures) ≡ []
none_more told structures k s other within is so_far none =
    told_more told structures k s other within is ∙ ap (λ front. front ++ option_to_list (told s.body)) so_far ∙ ap option_to_list none

-- and where its body tells one, that is the first of all
pub first_of_all : {Part : Type 0} (told : Body → Option Part) (structures : List Structure) (k : ℕ) (s other : Structure) (part : Part)
    → k < length structures → s ≡ get_or structures k other → all_told told (take k structures) ≡ [] → told s.body ≡ Some part
    → slice_get (all_told told structures) 0 ≡ Some part
first_of_all told structures k s other part within is so_far some =
    let rest : List Structure = drop (suc k) structures in
    ap (λ all. slice_get (all_told told all) 0) (split_at structures k other within ∙ ap (λ next. take k structures ++ next ∷ rest) (sym is))
    ∙ ap (λ all. slice_get all 0) (told_after told (take k structures) (s ∷ rest))
    ∙ ap (λ front. slice_get (front ++ all_told told (s ∷ rest)) 0) so_far
    ∙ ap (λ here. slice_get (cons_option here (all_told told rest)) 0) some
