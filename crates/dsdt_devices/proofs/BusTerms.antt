-- A walk over terms, some of which are scopes of the system bus.
use Rattle.std.proofs.Common.{◌≡◌, ℕ, suc, ◌+◌, ◌<◌, List, ◌++◌, length, get_or, drop, map, Option, Some, None, sym, ap, ◌∙◌, add-one, append_assoc}
use Rattle.std.specs.List.{filter_map}
use Rattle.std.specs.Option.{option_or}
use Rattle.std.proofs.Math.Seq.{drop-cons}
use Rattle.std.proofs.lemmas.List.Elements.{filter_map-append}
use Rattle.aml_terms.specs.declared.term.Term.{Term}
use Rattle.aml_terms.specs.Trees.{Tree, view}
use Rattle.dsdt_devices.specs.BusTerms.{in_bus, bus_terms, first_told}
use Rattle.dsdt_devices.proofs.FirstTold.{first_told-append}

-- what stands on the bus from a place on: what is directly in the term there, and then what stands behind it
on_the_bus : (terms : List Term) (i : ℕ) (x : Term) → i < length terms → x ≡ get_or terms i x
    → bus_terms (map view (drop i terms)) ≡ in_bus (view x) ++ bus_terms (map view (drop (i + 1) terms))
on_the_bus terms i x within at =
    ap (λ (those : List Term). bus_terms (map view those)) (drop-cons terms i x within)
    ∙ ap (λ (one : Term). in_bus (view one) ++ bus_terms (map view (drop (suc i) terms))) (sym at)
    ∙ ap (λ n. in_bus (view x) ++ bus_terms (map view (drop n terms))) (sym (add-one i))

-- what is told there first
told_there : {X : Type 0} (told : Tree → Option X) (terms : List Term) (i : ℕ) (x : Term) → i < length terms → x ≡ get_or terms i x
    → first_told told (bus_terms (map view (drop i terms)))
    ≡ option_or (first_told told (in_bus (view x))) (first_told told (bus_terms (map view (drop (i + 1) terms))))
told_there told terms i x within at =
    ap (first_told told) (on_the_bus terms i x within at)
    ∙ first_told-append told (in_bus (view x)) (bus_terms (map view (drop (i + 1) terms)))

-- a term in which something is told ends the walk
pub ends_there : {X : Type 0} (told : Tree → Option X) (terms : List Term) (i : ℕ) (x : Term) (y : X) → i < length terms → x ≡ get_or terms i x
    → first_told told (in_bus (view x)) ≡ Some y → first_told told (bus_terms (map view (drop i terms))) ≡ Some y
ends_there told terms i x y within at is =
    told_there told terms i x within at ∙ ap (λ one. option_or one (first_told told (bus_terms (map view (drop (i + 1) terms))))) is

-- and one in which nothing is told is passed
pub goes_on : {X : Type 0} (told : Tree → Option X) (terms : List Term) (i : ℕ) (x : Term) → i < length terms → x ≡ get_or terms i x
    → first_told told (in_bus (view x)) ≡ None
    → first_told told (bus_terms (map view (drop i terms))) ≡ first_told told (bus_terms (map view (drop (i + 1) terms)))
goes_on told terms i x within at is =
    told_there told terms i x within at ∙ ap (λ one. option_or one (first_told told (bus_terms (map view (drop (i + 1) terms))))) is

-- all that is told, where what is told of one term is added
pub adds_there : {X : Type 0} (told : Tree → Option X) (terms : List Term) (i : ℕ) (x : Term) (so_far more all : List X) → i < length terms
    → x ≡ get_or terms i x → so_far ++ filter_map told (bus_terms (map view (drop i terms))) ≡ all → more ≡ so_far ++ filter_map told (in_bus (view x))
    → more ++ filter_map told (bus_terms (map view (drop (i + 1) terms))) ≡ all
adds_there told terms i x so_far more all within at is added =
    let here = in_bus (view x) in
    let later = bus_terms (map view (drop (i + 1) terms)) in
    ap (λ those. those ++ filter_map told later) added ∙ append_assoc so_far (filter_map told here) (filter_map told later)
    ∙ ap (λ those. so_far ++ those) (sym (ap (filter_map told) (on_the_bus terms i x within at) ∙ filter_map-append told here later)) ∙ is
