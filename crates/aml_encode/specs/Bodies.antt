-- The sizes of what the packages in a term enclose, in the order in which they are written.
use Rattle.std.specs.Prelude.{ℕ, List, [], ◌∷◌, ◌++◌, length}
use Rattle.aml_terms.specs.Trees.{Tree, Trees, int, fixed, ones, chars, buffer, pack, named, scope, device, no_trees, tree}
use Rattle.aml_encode.specs.Packages.{buffer_body, values_body, terms_body}

-- a package's own, and then those of the packages in it
abbrev mutual
  pub bodies : Tree → List ℕ
  bodies (int n) = []
  bodies (fixed n) = []
  bodies ones = []
  bodies (chars text) = []
  bodies (buffer content) = length (buffer_body content) ∷ []
  bodies (pack values) = length (values_body values) ∷ all_bodies values
  bodies (named path value) = bodies value
  bodies (scope path terms) = length (terms_body path terms) ∷ all_bodies terms
  bodies (device path terms) = length (terms_body path terms) ∷ all_bodies terms

  pub all_bodies : Trees → List ℕ
  all_bodies no_trees = []
  all_bodies (tree t ts) = bodies t ++ all_bodies ts
