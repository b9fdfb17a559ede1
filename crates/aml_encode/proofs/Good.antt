-- What is well formed can be written.
use Rattle.std.proofs.Common.{inl, inr}
use Rattle.aml_terms.specs.Trees.{Tree, Trees, int, fixed, ones, chars, buffer, pack, named, scope, device, no_trees, tree}
use Rattle.aml_terms.specs.WellFormed.{IsGood, AreGood, IsGoodValue, AreGoodValues, IsWellFormed}
use Rattle.aml_encode.specs.Writable.{IsWritable, AreWritable}

mutual
  unfolding IsGoodValue

  value_writable : (t : Tree) → IsGoodValue t → IsWritable t
  value_writable (int n) h = tt
  value_writable (fixed n) h = tt
  value_writable ones h = tt
  value_writable (chars text) h = tt
  value_writable (buffer content) h = tt
  value_writable (pack values) h = (h.0, values_writable values h.1)
  value_writable (named path value) h = absurd h
  value_writable (scope path terms) h = absurd h
  value_writable (device path terms) h = absurd h

  values_writable : (ts : Trees) → AreGoodValues ts → AreWritable ts
  values_writable no_trees h = tt
  values_writable (tree t ts) h = (value_writable t h.0, values_writable ts h.1)

mutual
  unfolding IsGood

  term_writable : (t : Tree) → IsGood t → IsWritable t
  term_writable (int n) h = tt
  term_writable (fixed n) h = tt
  term_writable ones h = tt
  term_writable (chars text) h = tt
  term_writable (buffer content) h = tt
  term_writable (pack values) h = absurd h
  term_writable (named path value) h = (h.0, value_writable value h.1)
  term_writable (scope path terms) h = (h.0, terms_writable terms h.1)
  term_writable (device path terms) h = (h.0, terms_writable terms h.1)

  terms_writable : (ts : Trees) → AreGood ts → AreWritable ts
  terms_writable no_trees h = tt
  terms_writable (tree t ts) h = (term_writable t h.0, terms_writable ts h.1)

pub writable : (t : Tree) → IsWellFormed t → IsWritable t
writable t (inl h) = term_writable t h
writable t (inr h) = value_writable t h
