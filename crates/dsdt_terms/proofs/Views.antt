-- How terms are seen.
use Rattle.std.proofs.Common.{◌≡◌, List, [], ◌∷◌, ℕ, ◌+◌, ◌*◌, refl, ap, ap₂, ◌∙◌, sym}
use Rattle.aml_terms.specs.declared.term.Path.{Path}
use Rattle.aml_terms.specs.declared.term.Term.{Term, fold-roll-Term}
use Rattle.aml_terms.specs.declared.term.Term.TheVariants as t
use Rattle.aml_terms.specs.declared.term.Term.TheOpen.{Term-F}
use Rattle.aml_terms.specs.Trees.{Tree, Trees, no_trees, tree, view, views, view_step, int, fixed, chars, buffer, pack, named, scope, device}
use Rattle.machine_desc.specs.declared.device_parts.Route.{Route}
use Rattle.dsdt_terms.specs.Bridge.{route_term}

pub view-int : (n : ℕ) → view (t.Int n) ≡ int n
view-int n = sym (ap view (t.rolls-Int n)) ∙ fold-roll-Term Tree view_step (Term-F.Int n)

pub view-fixed : (n : ℕ) → view (t.Fixed n) ≡ fixed n
view-fixed n = sym (ap view (t.rolls-Fixed n)) ∙ fold-roll-Term Tree view_step (Term-F.Fixed n)

pub view-chars : (text : List ℕ) → view (t.Chars text) ≡ chars text
view-chars text = sym (ap view (t.rolls-Chars text)) ∙ fold-roll-Term Tree view_step (Term-F.Chars text)

pub view-buffer : (bytes : List ℕ) → view (t.Buffer bytes) ≡ buffer bytes
view-buffer bytes = sym (ap view (t.rolls-Buffer bytes)) ∙ fold-roll-Term Tree view_step (Term-F.Buffer bytes)

pub view-package : (values : List Term) → view (t.Package values) ≡ pack (views values)
view-package values = sym (ap view (t.rolls-Package values)) ∙ fold-roll-Term Tree view_step (Term-F.Package values)

pub view-named : (path : Path) (value : Term) → view (t.Named path value) ≡ named path (view value)
view-named path value = sym (ap view (t.rolls-Named path value)) ∙ fold-roll-Term Tree view_step (Term-F.Named path value)

pub view-scope : (path : Path) (terms : List Term) → view (t.Scope path terms) ≡ scope path (views terms)
view-scope path terms = sym (ap view (t.rolls-Scope path terms)) ∙ fold-roll-Term Tree view_step (Term-F.Scope path terms)

pub view-device : (path : Path) (terms : List Term) → view (t.Device path terms) ≡ device path (views terms)
view-device path terms = sym (ap view (t.rolls-Device path terms)) ∙ fold-roll-Term Tree view_step (Term-F.Device path terms)

-- one more term in front of those that are seen
pub seen : {t : Tree} {ts : Trees} {u : Tree} {us : Trees} → t ≡ u → ts ≡ us → tree t ts ≡ tree u us
seen first others = ap₂ tree first others

-- a route as the package of its numbers
pub view-route : (r : Route) → view (route_term r) ≡ pack (tree (int (r.device * 0x10000 + 0xFFFF))
    (tree (int r.pin) (tree (int 0) (tree (int r.gsi) no_trees))))
view-route r =
    view-package (t.Int (r.device * 0x10000 + 0xFFFF) ∷ t.Int r.pin ∷ t.Int 0 ∷ t.Int r.gsi ∷ [])
    ∙ ap pack (seen (view-int (r.device * 0x10000 + 0xFFFF)) (seen (view-int r.pin) (seen (view-int 0) (seen (view-int r.gsi) refl))))
