-- Two paths are equal where their parts are.
use Rattle.std.proofs.Common.{◌≡◌, ◌∙◌, ap, refl, ℕ, List, Bool, nat_eq}
use Rattle.std.proofs.lemmas.Bool.Decides.{Decides-eqb}
use Rattle.std.proofs.lemmas.Slice.Eq.{slice_eq-Decides}
use Rattle.std.specs.Bool.{Decides}
use Rattle.std.specs.Cmp.Lexicographic.{pointwise}
use Rattle.aml_terms.specs.declared.term.Path.{Path}

same_parts : (p q : Path) → p.root ≡ q.root → p.parents ≡ q.parents → p.segments ≡ q.segments → p ≡ q
same_parts p q root parents segments =
    ap (λ (is : Bool). record p { root = is }) root ∙ ap (λ (is : ℕ). record q { parents = is; segments = p.segments }) parents
    ∙ ap (λ (are : List (List ℕ)). record q { segments = are }) segments

-- what `==` of their segments says, where their other parts are equal
pub same_segments : (p q : Path) (same : Bool) → same ≡ pointwise (pointwise nat_eq) p.segments q.segments
    → p.root ≡ q.root → p.parents ≡ q.parents → Decides same (p ≡ q)
same_segments p q same is root parents =
    let decided : Decides same (p.segments ≡ q.segments) =
    slice_eq-Decides (λ a b. slice_eq-Decides Decides-eqb a b _ refl) p.segments q.segments same is in
    (λ yes. same_parts p q root parents (decided.0 yes), λ e. decided.1 (ap (λ (path : Path). path.segments) e))
