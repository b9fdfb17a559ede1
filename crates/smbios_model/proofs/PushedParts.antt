-- Structures that are pushed one after the other, with handles that count up.
use Rattle.std.proofs.Common.{◌≡◌, ℕ, suc, ◌+◌, ◌<◌, List, [], ◌∷◌, ◌++◌, length, map, take, get_or, arith, ap, sym, ◌∙◌, append_assoc}
use Rattle.std.proofs.lemmas.List.{take_more, length-map, length-take-le, map-append}
use Rattle.smbios_model.specs.declared.smbios.Body.{Body}
use Rattle.smbios_model.specs.declared.smbios.Structure.{Structure}
use Rattle.smbios_model.specs.MachineStructures.{with_handles}

-- the structure of these parts
structure_from : ℕ → Body → Structure
structure_from handle body = record { handle = handle; body = body }

-- one more body has the next handle
with_handles-more : (first : ℕ) (bodies : List Body) (body : Body)
    → with_handles first (bodies ++ body ∷ []) ≡ with_handles first bodies ++ structure_from (first + length bodies) body ∷ []
unfolding structure_from
with_handles-more first [] body =
    let same : first ≡ first + 0 = omega arith in
    ap (λ n. structure_from n body ∷ []) same
with_handles-more first (next ∷ bodies) body =
    let same : first + 1 + length bodies ≡ first + suc (length bodies) = omega arith in
    ap (λ all. structure_from first next ∷ all) (with_handles-more (first + 1) bodies body)
    ∙ ap (λ n. structure_from first next ∷ (with_handles (first + 1) bodies ++ structure_from n body ∷ [])) same

pub one_pushed : {X : Type 0} (body_of : X → Body) (first handle k : ℕ) (xs : List X) (x other : X) (body : Body) (old now new : List Structure)
    → k < length xs → x ≡ get_or xs k other → handle ≡ first + k → body ≡ body_of x → now ≡ old ++ with_handles first (map body_of (take k xs))
    → new ≡ now ++ record { handle = handle; body = body } ∷ [] → new ≡ old ++ with_handles first (map body_of (take (k + 1) xs))
unfolding structure_from
one_pushed body_of first handle k xs x other body old now new within item counts says was is =
    let bodies : List Body = map body_of (take k xs) in
    let many : length (map body_of (take k xs)) ≡ k = length-map (take k xs) body_of ∙ length-take-le k xs (omega arith) in
    let number : handle ≡ first + length (map body_of (take k xs)) = omega arith in
    let more : map body_of (take (k + 1) xs) ≡ map body_of (take k xs) ++ body ∷ [] =
    ap (map body_of) (take_more xs k other within ∙ ap (λ y. take k xs ++ y ∷ []) (sym item)) ∙ map-append body_of (take k xs) (x ∷ [])
    ∙ ap (λ b. map body_of (take k xs) ++ b ∷ []) (sym says) in
    is ∙ ap (λ front. front ++ structure_from handle body ∷ []) was
    ∙ append_assoc old (with_handles first bodies) (structure_from handle body ∷ [])
    ∙ ap (λ n. old ++ (with_handles first bodies ++ structure_from n body ∷ [])) number
    ∙ ap (λ all. old ++ all) (sym (with_handles-more first bodies body))
    ∙ ap (λ all. old ++ with_handles first all) (sym more)
