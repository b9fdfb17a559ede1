-- A scope, of whose own devices nothing is told.
use Rattle.std.proofs.Common.{◌≡◌, ℕ, List, is_some, Option, None, sym, ap, ◌∙◌}
use Rattle.std.proofs.lemmas.Bool.{cond-false}
use Rattle.aml_terms.specs.declared.term.Path.{Path}
use Rattle.aml_terms.specs.declared.term.Term.{Term}
use Rattle.aml_terms.specs.declared.term.Term.TheVariants as t
use Rattle.aml_terms.specs.Trees.{Tree, Trees, view, views}
use Rattle.aml_generation.specs.Generation.{in_scope, taken_of_bus, taken_inside, taken}
use Rattle.aml_generation.proofs.Kept.{keeps_bus}
use Rattle.aml_generation.proofs.Views.{view-scope, from_views}

-- Its terms are given in the first step as `handed`, with the path `found`, and are left as `between`.
pub record IsBare (path found : Path) (before handed between : List Term) (first : Option ℕ) : Type 0 where
  pub path_is : found ≡ path
  pub terms_are : handed ≡ before
  pub left : ◌≡◌ {A = Option ℕ × Trees} (first, views between) (taken_of_bus found (views handed))
  pub none : first ≡ None

-- they stay
pub bare_stays : (path found : Path) (before handed between : List Term) (first : Option ℕ) → IsBare path found before handed between first
    → between ≡ before
bare_stays path found before handed between first bare =
    let nothing : (taken_of_bus found (views handed)).0 ≡ None = ap (λ (r : Option ℕ × Trees). r.0) (sym bare.left) ∙ bare.none in
    let same : views between ≡ views handed = ap (λ (r : Option ℕ × Trees). r.1) bare.left ∙ keeps_bus found (views handed) nothing in
    from_views between handed same ∙ bare.terms_are

-- what is told of it is what is told of the scopes inside it
pub bare_taken : (term : Term) (path found : Path) (before handed between after : List Term) (first told : Option ℕ)
    → term ≡ t.Scope path before → IsBare path found before handed between first
    → ◌≡◌ {A = Option ℕ × Trees} (told, views after) (taken (views between))
    → ◌≡◌ {A = Option ℕ × Tree} (told, view (t.Scope found after)) (taken_inside (view term))
bare_taken term path found before handed between after first told is bare taken_is =
    let between_is : between ≡ before = bare_stays path found before handed between first bare in
    let nothing : (taken_of_bus path (views before)).0 ≡ None =
    ap (λ (p : Path). (taken_of_bus p (views before)).0) (sym bare.path_is)
    ∙ ap (λ (ts : List Term). (taken_of_bus found (views ts)).0) (sym bare.terms_are)
    ∙ ap (λ (r : Option ℕ × Trees). r.0) (sym bare.left) ∙ bare.none in
    ap (λ (seen : Tree). (told, seen)) (ap (λ (p : Path). view (t.Scope p after)) bare.path_is ∙ view-scope path after)
    ∙ ap (in_scope path) (taken_is ∙ ap (λ (ts : List Term). taken (views ts)) between_is
    ∙ sym (cond-false (is_some (taken_of_bus path (views before)).0) (taken_of_bus path (views before)) (taken (views before)) (ap is_some nothing)))
    ∙ ap taken_inside (sym (ap view is ∙ view-scope path before))
