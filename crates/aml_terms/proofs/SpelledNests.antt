-- Terms that bytes spell nest no deeper than there is room for.
use Rattle.std.proofs.Common.{ℕ, zero, suc, List}
use Rattle.aml_terms.specs.Trees.{Tree, Trees, int, fixed, ones, chars, buffer, pack, named, scope, device, no_trees, tree}
use Rattle.aml_terms.specs.Grammar.{Spelling, Enclosed, Deeper, SpellsValue, SpellValues, Spells, SpellAll}
use Rattle.aml_terms.specs.WellFormed.{Below, NestsIn, NestIn}

-- where there is room for a spelling, there is room for what it shows
below_from : (room : ℕ) (Is : ℕ → Spelling) (Has : ℕ → Type 0) (bytes : List ℕ) → Deeper room (λ inner. Enclosed (Is inner)) bytes
    → ((inner : ℕ) (body : List ℕ) → Is inner body → Has inner) → Below room Has
below_from zero Is Has bytes is shows = absurd is
below_from (suc room) Is Has bytes is shows = shows room is.body is.is

mutual
  unfolding NestsIn SpellsValue

  value_nests : (t : Tree) (room : ℕ) (bytes : List ℕ) → SpellsValue room t bytes → NestsIn room t
  value_nests (int n) room bytes is = tt
  value_nests (fixed n) room bytes is = tt
  value_nests ones room bytes is = tt
  value_nests (chars text) room bytes is = tt
  value_nests (buffer content) room bytes is = below_from room _ _ is.0 is.2 (λ inner body is. tt)
  value_nests (pack values) room bytes is = below_from room _ _ is.0 is.2 (λ inner body is. values_nest values inner is.0 is.2)
  value_nests (named path value) room bytes is = absurd is
  value_nests (scope path terms) room bytes is = absurd is
  value_nests (device path terms) room bytes is = absurd is

  values_nest : (ts : Trees) (room : ℕ) (bytes : List ℕ) → SpellValues room ts bytes → NestIn room ts
  values_nest no_trees room bytes is = tt
  values_nest (tree t ts) room bytes is = (value_nests t room is.first is.is_first, values_nest ts room is.rest is.is_next)

mutual
  unfolding NestsIn Spells

  term_nests : (t : Tree) (room : ℕ) (bytes : List ℕ) → Spells room t bytes → NestsIn room t
  term_nests (named path value) room bytes is = value_nests value room is.2.rest is.2.is_next
  term_nests (scope path terms) room bytes is = below_from room _ _ is.0 is.2 (λ inner body is. terms_nest terms inner is.rest is.is_next)
  term_nests (device path terms) room bytes is = below_from room _ _ is.2.0 is.2.2 (λ inner body is. terms_nest terms inner is.rest is.is_next)
  term_nests (int n) room bytes is = absurd is
  term_nests (fixed n) room bytes is = absurd is
  term_nests ones room bytes is = absurd is
  term_nests (chars text) room bytes is = absurd is
  term_nests (buffer content) room bytes is = absurd is
  term_nests (pack values) room bytes is = absurd is

  pub terms_nest : (ts : Trees) (room : ℕ) (bytes : List ℕ) → SpellAll room ts bytes → NestIn room ts
  terms_nest no_trees room bytes is = tt
  terms_nest (tree t ts) room bytes is = (term_nests t room is.first is.is_first, terms_nest ts room is.rest is.is_next)
