-- What the writer asks of a term: paths that can be written, and numbers of values that fit a byte.
use Rattle.std.specs.Prelude.{◌<◌, ⊤}
use Rattle.aml_terms.specs.Trees.{Tree, Trees, int, fixed, ones, chars, buffer, pack, named, scope, device, no_trees, tree, count_of}
use Rattle.aml_terms.specs.Paths.{IsGoodPath}

abbrev mutual
  pub IsWritable : Tree → Type 0
  IsWritable (int n) = ⊤
  IsWritable (fixed n) = ⊤
  IsWritable ones = ⊤
  IsWritable (chars text) = ⊤
  IsWritable (buffer content) = ⊤
  IsWritable (pack values) = (count_of values < 256) × AreWritable values
  IsWritable (named path value) = IsGoodPath path × IsWritable value
  IsWritable (scope path terms) = IsGoodPath path × AreWritable terms
  IsWritable (device path terms) = IsGoodPath path × AreWritable terms

  pub AreWritable : Trees → Type 0
  AreWritable no_trees = ⊤
  AreWritable (tree t ts) = IsWritable t × AreWritable ts
