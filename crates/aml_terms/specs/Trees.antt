-- Terms as plain trees: a term holds its terms in boxes and lists, and a definition recurses through the tree that it is seen as.
use Rattle.std.specs.Prelude.{ℕ, zero, suc, List, [], ◌∷◌, map}
use Rattle.aml_terms.specs.declared.term.Path.{Path}
use Rattle.aml_terms.specs.declared.term.Term.{Term, fold-Term}
use Rattle.aml_terms.specs.declared.term.Term.TheOpen.{Term-F}

mutual
  pub data Tree : Type 0 where
    int : ℕ → Tree
    fixed : ℕ → Tree
    ones : Tree
    chars : List ℕ → Tree
    buffer : List ℕ → Tree
    pack : Trees → Tree
    named : Path → Tree → Tree
    scope : Path → Trees → Tree
    device : Path → Trees → Tree

  pub data Trees : Type 0 where
    no_trees : Trees
    tree : Tree → Trees → Trees

abbrev pub trees_of : List Tree → Trees
trees_of [] = no_trees
trees_of (t ∷ ts) = tree t (trees_of ts)

-- one level, with each term inside seen already
abbrev pub view_step : Term-F Tree → Tree
view_step (Term-F.Int n) = int n
view_step (Term-F.Fixed n) = fixed n
view_step Term-F.Ones = ones
view_step (Term-F.Chars text) = chars text
view_step (Term-F.Buffer bytes) = buffer bytes
view_step (Term-F.Package values) = pack (trees_of values)
view_step (Term-F.Named path value) = named path value
view_step (Term-F.Scope path terms) = scope path (trees_of terms)
view_step (Term-F.Device path terms) = device path (trees_of terms)

-- the tree of a term
abbrev pub view : Term → Tree
view = fold-Term Tree view_step

-- the trees of terms, in order
abbrev pub views : List Term → Trees
views terms = trees_of (map view terms)

-- how many there are
abbrev pub count_of : Trees → ℕ
count_of no_trees = zero
count_of (tree t ts) = suc (count_of ts)
