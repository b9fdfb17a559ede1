-- How terms are seen.
use Rattle.std.proofs.Common.{◌≡◌, ◌∷◌, [], List, ℕ, refl, ap, ap₂, ◌∙◌, sym}
use Rattle.aml_terms.specs.declared.term.Path.{Path}
use Rattle.aml_terms.specs.declared.term.Term.{Term, fold-roll-Term}
use Rattle.aml_terms.specs.declared.term.Term.TheVariants as t
use Rattle.aml_terms.specs.declared.term.Term.TheOpen.{Term-F}
use Rattle.aml_terms.specs.Trees.{Tree, view, views, view_step, int, scope}
use Rattle.aml_terms.proofs.FromTrees.{from_trees}

pub view-int : (n : ℕ) → view (t.Int n) ≡ int n
view-int n = sym (ap view (t.rolls-Int n)) ∙ fold-roll-Term Tree view_step (Term-F.Int n)

pub view-scope : (path : Path) (terms : List Term) → view (t.Scope path terms) ≡ scope path (views terms)
view-scope path terms = sym (ap view (t.rolls-Scope path terms)) ∙ fold-roll-Term Tree view_step (Term-F.Scope path terms)

-- terms that are seen as the same trees are the same
pub from_views : (ts us : List Term) → views ts ≡ views us → ts ≡ us
from_views [] [] same = refl
from_views [] (u ∷ us) same = cc
from_views (t ∷ ts) [] same = cc
from_views (t ∷ ts) (u ∷ us) same =
    let first : view t ≡ view u = cc in
    let others : views ts ≡ views us = cc in
    ap₂ (λ (one : Term) (more : List Term). one ∷ more) (from_trees t u first) (from_views ts us others)
