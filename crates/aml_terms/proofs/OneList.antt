-- No spelling of a term is the front of another's, and bytes spell at most one list of terms.
use Rattle.std.proofs.Common.{◌≡◌, ℕ, List, [], ◌∷◌, ◌++◌, refl, sym, ap, ◌∙◌}
use Rattle.aml_terms.specs.Trees.{Tree, Trees, no_trees, tree, trees_of}
use Rattle.aml_terms.specs.Grammar.{Then, Spells, SpellAll, levels, Aml}
use Rattle.aml_terms.specs.Reading.{term_at}
use Rattle.aml_terms.proofs.PrefixFree.{IsPrefixFree, InTurn, one_list}
use Rattle.aml_terms.proofs.Readers.{same_thing, same_front}
use Rattle.aml_terms.proofs.ReadTerms.{one_by_one, term_laws}

pub same_term : (room : ℕ) (a b : Tree) (first second x y : List ℕ) → Spells room a first → Spells room b second → first ++ x ≡ second ++ y → a ≡ b
same_term room = same_thing (term_at room) (Spells room) 0 (term_laws room 0)

pub same_spelling : (room : ℕ) (a b : Tree) (first second x y : List ℕ) → Spells room a first → Spells room b second → first ++ x ≡ second ++ y
    → first ≡ second
same_spelling room = same_front (term_at room) (Spells room) 0 (term_laws room 0)

free : (room : ℕ) → IsPrefixFree (Spells room)
free room = record { some = (one_by_one room).some; same = same_term room; whole = same_spelling room }

-- trees as a list
list_of : Trees → List Tree
list_of no_trees = []
list_of (tree t ts) = t ∷ list_of ts

back_again : (ts : Trees) → trees_of (list_of ts) ≡ ts
unfolding list_of
back_again no_trees = refl
back_again (tree t ts) = ap (tree t) (back_again ts)

in_turn : (room : ℕ) (ts : Trees) (bytes : List ℕ) → SpellAll room ts bytes → InTurn (Spells room) (list_of ts) bytes
unfolding list_of
in_turn room no_trees bytes h = (one_by_one room).is_none bytes h
in_turn room (tree t ts) bytes h =
    let one : Then (Spells room t) (SpellAll room ts) bytes = (one_by_one room).is_one t ts bytes h in
    (one.first, one.rest, one.spelled, one.is_first, in_turn room ts one.rest one.is_next)

pub one_list_of_terms : (bytes : List ℕ) (terms others : Trees) → Aml terms bytes → Aml others bytes → terms ≡ others
one_list_of_terms bytes terms others h k =
    sym (back_again terms)
    ∙ ap trees_of (one_list (Spells levels) (free levels) (list_of terms) (list_of others) bytes (in_turn levels terms bytes h) (in_turn levels others bytes k))
    ∙ back_again others
