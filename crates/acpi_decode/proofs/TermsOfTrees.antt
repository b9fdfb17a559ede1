-- Trees of terms are seen of terms.
use Rattle.std.proofs.Common.{◌≡◌, ◌∙◌, ap, refl, sym, List, [], ◌∷◌}
use Rattle.aml_terms.specs.Trees.{Tree, Trees, int, fixed, ones, chars, buffer, pack, named, scope, device, no_trees, tree, view, views, view_step}
use Rattle.aml_terms.specs.declared.term.Term.{Term}
use Rattle.aml_terms.specs.declared.term.Term.TheOpen.{Term-F}
use Rattle.aml_terms.specs.declared.term.Term.TheFolds.{map-Term, fold-roll-Term}
use Rattle.aml_terms.specs.declared.term.Term.TheVariants as t
use Rattle.aml_terms.specs.declared.term.Term.TheViews.{roll-Term}

-- a term of one level is seen by what its terms are seen as
seen_level : (level : Term-F Term) (term : Term) → roll-Term level ≡ term → view term ≡ view_step (map-Term Term Tree view level)
seen_level level term is = sym (ap view is) ∙ fold-roll-Term Tree view_step level

mutual
  term_seen : (seen : Tree) → (term : Term) × (view term ≡ seen)
  term_seen (int n) = (t.Int n, seen_level (Term-F.Int n) (t.Int n) (t.rolls-Int n))
  term_seen (fixed n) = (t.Fixed n, seen_level (Term-F.Fixed n) (t.Fixed n) (t.rolls-Fixed n))
  term_seen ones = (t.Ones, seen_level Term-F.Ones t.Ones t.rolls-Ones)
  term_seen (chars text) = (t.Chars text, seen_level (Term-F.Chars text) (t.Chars text) (t.rolls-Chars text))
  term_seen (buffer bytes) = (t.Buffer bytes, seen_level (Term-F.Buffer bytes) (t.Buffer bytes) (t.rolls-Buffer bytes))
  term_seen (pack values) =
      let inside = terms_seen values in
      (t.Package inside.0, seen_level (Term-F.Package inside.0) (t.Package inside.0) (t.rolls-Package inside.0) ∙ ap pack inside.1)
  term_seen (named path value) =
      let inside = term_seen value in
      (t.Named path inside.0, seen_level (Term-F.Named path inside.0) (t.Named path inside.0) (t.rolls-Named path inside.0) ∙ ap (named path) inside.1)
  term_seen (scope path terms) =
      let inside = terms_seen terms in
      (t.Scope path inside.0, seen_level (Term-F.Scope path inside.0) (t.Scope path inside.0) (t.rolls-Scope path inside.0) ∙ ap (scope path) inside.1)
  term_seen (device path terms) =
      let inside = terms_seen terms in
      (t.Device path inside.0, seen_level (Term-F.Device path inside.0) (t.Device path inside.0) (t.rolls-Device path inside.0) ∙ ap (device path) inside.1)

  pub terms_seen : (seen : Trees) → (terms : List Term) × (views terms ≡ seen)
  terms_seen no_trees = ([], refl)
  terms_seen (tree one others) =
      let first = term_seen one in
      let behind = terms_seen others in
      (first.0 ∷ behind.0, ap (λ seen. tree seen (views behind.0)) first.1 ∙ ap (tree one) behind.1)
