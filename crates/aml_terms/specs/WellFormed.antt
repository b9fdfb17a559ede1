-- Terms that have a spelling: well formed, of numbers that fit, and nested no deeper than there is room for.
use Rattle.std.specs.Prelude.{ℕ, zero, suc, ◌<◌, ◌^◌, ◌⊎◌, ⊤}
use Rattle.std.specs.List.{AllByRecursion}
use Rattle.aml_terms.specs.Trees.{Tree, Trees, int, fixed, ones, chars, buffer, pack, named, scope, device, no_trees, tree, count_of}
use Rattle.aml_terms.specs.Paths.{IsGoodPath}
use Rattle.aml_terms.specs.Grammar.{IsChar}

-- a value that is well formed: no name, no scope and no device, with texts of characters and packages of at most 255 values
unfoldable mutual
  pub IsGoodValue : Tree → Type 0
  IsGoodValue (int n) = ⊤
  IsGoodValue (fixed n) = ⊤
  IsGoodValue ones = ⊤
  IsGoodValue (chars text) = AllByRecursion IsChar text
  IsGoodValue (buffer content) = ⊤
  IsGoodValue (pack values) = (count_of values < 256) × AreGoodValues values
  IsGoodValue (named path value) = ⊥
  IsGoodValue (scope path terms) = ⊥
  IsGoodValue (device path terms) = ⊥

  pub AreGoodValues : Trees → Type 0
  AreGoodValues no_trees = ⊤
  AreGoodValues (tree value values) = IsGoodValue value × AreGoodValues values

-- a term that is well formed: a name, a scope or a device
unfoldable mutual
  pub IsGood : Tree → Type 0
  IsGood (named path value) = IsGoodPath path × IsGoodValue value
  IsGood (scope path terms) = IsGoodPath path × AreGood terms
  IsGood (device path terms) = IsGoodPath path × AreGood terms
  IsGood (int n) = ⊥
  IsGood (fixed n) = ⊥
  IsGood ones = ⊥
  IsGood (chars text) = ⊥
  IsGood (buffer content) = ⊥
  IsGood (pack values) = ⊥

  pub AreGood : Trees → Type 0
  AreGood no_trees = ⊤
  AreGood (tree term terms) = IsGood term × AreGood terms

-- a term, or a value that stands alone
abbrev pub IsWellFormed : Tree → Type 0
IsWellFormed t = IsGood t ⊎ IsGoodValue t

-- the numbers fit their types, as those of a `Term` do
unfoldable mutual
  pub HasFittingNumbers : Tree → Type 0
  HasFittingNumbers (int n) = n < 2 ^ 64
  HasFittingNumbers (fixed n) = n < 2 ^ 32
  HasFittingNumbers ones = ⊤
  HasFittingNumbers (chars text) = ⊤
  HasFittingNumbers (buffer content) = ⊤
  HasFittingNumbers (pack values) = HaveFittingNumbers values
  HasFittingNumbers (named path value) = HasFittingNumbers value
  HasFittingNumbers (scope path terms) = HaveFittingNumbers terms
  HasFittingNumbers (device path terms) = HaveFittingNumbers terms

  pub HaveFittingNumbers : Trees → Type 0
  HaveFittingNumbers no_trees = ⊤
  HaveFittingNumbers (tree t ts) = HasFittingNumbers t × HaveFittingNumbers ts

-- so many levels deeper there is room for a property
abbrev pub Below : ℕ → (ℕ → Type 0) → Type 0
Below zero Is = ⊥
Below (suc room) Is = Is room

-- scopes, devices, packages and buffers nest at most so many levels deep
unfoldable mutual
  pub NestsIn : ℕ → Tree → Type 0
  NestsIn room (int n) = ⊤
  NestsIn room (fixed n) = ⊤
  NestsIn room ones = ⊤
  NestsIn room (chars text) = ⊤
  NestsIn room (buffer content) = Below room (λ inner. ⊤)
  NestsIn room (pack values) = Below room (λ inner. NestIn inner values)
  NestsIn room (named path value) = NestsIn room value
  NestsIn room (scope path terms) = Below room (λ inner. NestIn inner terms)
  NestsIn room (device path terms) = Below room (λ inner. NestIn inner terms)

  pub NestIn : ℕ → Trees → Type 0
  NestIn room no_trees = ⊤
  NestIn room (tree t ts) = NestsIn room t × NestIn room ts

-- terms as they are read again: each `Fixed` is an `Int`
unfoldable mutual
  pub plain : Tree → Tree
  plain (int n) = int n
  plain (fixed n) = int n
  plain ones = ones
  plain (chars text) = chars text
  plain (buffer content) = buffer content
  plain (pack values) = pack (all_plain values)
  plain (named path value) = named path (plain value)
  plain (scope path terms) = scope path (all_plain terms)
  plain (device path terms) = device path (all_plain terms)

  pub all_plain : Trees → Trees
  all_plain no_trees = no_trees
  all_plain (tree t ts) = tree (plain t) (all_plain ts)
