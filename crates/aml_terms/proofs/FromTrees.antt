-- A term is made again from its tree, so that terms of one tree are one term.
use Rattle.std.proofs.Common.{◌≡◌, ◌∙◌, ap, refl, sym, subst, List, [], ◌∷◌, map}
use Rattle.aml_terms.specs.Trees.{Tree, Trees, int, fixed, ones, chars, buffer, pack, named, scope, device, no_trees, tree, trees_of, view, view_step}
use Rattle.aml_terms.specs.declared.term.Term.{Term}
use Rattle.aml_terms.specs.declared.term.Term.TheOpen.{Term-F}
use Rattle.aml_terms.specs.declared.term.Term.TheFolds.{map-Term, fold-roll-Term, ind-Term}
use Rattle.aml_terms.specs.declared.term.Term.TheVariants as t
use Rattle.aml_terms.specs.declared.term.Term.TheViews.{roll-Term}

abbrev mutual
  -- the term that a tree is seen of
  term_of : Tree → Term
  term_of (int n) = t.Int n
  term_of (fixed n) = t.Fixed n
  term_of ones = t.Ones
  term_of (chars text) = t.Chars text
  term_of (buffer bytes) = t.Buffer bytes
  term_of (pack values) = t.Package (terms_of values)
  term_of (named path value) = t.Named path (term_of value)
  term_of (scope path terms) = t.Scope path (terms_of terms)
  term_of (device path terms) = t.Device path (terms_of terms)

  terms_of : Trees → List Term
  terms_of no_trees = []
  terms_of (tree term terms) = term_of term ∷ terms_of terms

abbrev IsAgain : Term → Type 0
IsAgain term = term ≡ term_of (view term)

-- a term with the proof that it is made again, and such a term without the proof
abbrev Again : Type 0
Again = (term : Term) × IsAgain term

abbrev bare : Again → Term
bare again = again.0

-- terms that are each made again
are_again : (terms : List Again) → map bare terms ≡ terms_of (trees_of (map view (map bare terms)))
are_again [] = refl
are_again (term ∷ terms) =
    ap (λ (one : Term). one ∷ map bare terms) term.1 ∙ ap (λ (others : List Term). term_of (view term.0) ∷ others) (are_again terms)

-- one level, where each term inside is made again
level_again : (level : Term-F Again)
    → roll-Term (map-Term Again Term bare level) ≡ term_of (view_step (map-Term Term Tree view (map-Term Again Term bare level)))
level_again (Term-F.Int n) = t.rolls-Int n
level_again (Term-F.Fixed n) = t.rolls-Fixed n
level_again Term-F.Ones = t.rolls-Ones
level_again (Term-F.Chars text) = t.rolls-Chars text
level_again (Term-F.Buffer bytes) = t.rolls-Buffer bytes
level_again (Term-F.Package values) = t.rolls-Package (map bare values) ∙ ap t.Package (are_again values)
level_again (Term-F.Named path value) = t.rolls-Named path value.0 ∙ ap (t.Named path) value.1
level_again (Term-F.Scope path terms) = t.rolls-Scope path (map bare terms) ∙ ap (t.Scope path) (are_again terms)
level_again (Term-F.Device path terms) = t.rolls-Device path (map bare terms) ∙ ap (t.Device path) (are_again terms)

is_again : (term : Term) → IsAgain term
is_again = ind-Term IsAgain (λ level inside is.
    subst (λ (seen : Term-F Term). IsAgain (roll-Term seen)) is
    (level_again inside ∙ ap term_of (sym (fold-roll-Term Tree view_step (map-Term Again Term bare inside)))))

pub from_trees : (a b : Term) → view a ≡ view b → a ≡ b
from_trees a b same = is_again a ∙ ap term_of same ∙ sym (is_again b)
