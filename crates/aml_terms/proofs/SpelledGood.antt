-- Terms that bytes spell are well formed, and have numbers that fit.
use Rattle.std.proofs.Common.{ℕ, zero, suc, ◌<◌, List}
use Rattle.aml_terms.specs.declared.term.Path.{Path}
use Rattle.aml_terms.specs.Trees.{Tree, Trees, int, fixed, ones, chars, buffer, pack, named, scope, device, no_trees, tree, count_of}
use Rattle.aml_terms.specs.Paths.{IsGoodPath, IsPath}
use Rattle.aml_terms.specs.Grammar.{Spelling, Then, Enclosed, Behind, Deeper, SpellsValue, SpellValues, Spells, SpellAll}
use Rattle.aml_terms.specs.WellFormed.{IsGood, AreGood, IsGoodValue, AreGoodValues, HasFittingNumbers, HaveFittingNumbers}
use Rattle.aml_terms.proofs.ByteLists.{AreBytes, parts_of_bytes, byte_and_rest}
use Rattle.aml_terms.proofs.ShortestNumbers.{integer-fits}
use Rattle.aml_terms.proofs.WrittenPaths.{path_is_good}

-- where bytes are spelled so, something holds
abbrev Shows : Spelling → Type 0 → Type 0
Shows Is Holds = (bytes : List ℕ) → AreBytes bytes → Is bytes → Holds

-- a byte behind which something holds, which is a byte
byte_shows : (byte : ℕ) (Is : Spelling) (Holds : Type 0) → Shows Is Holds → Shows (Behind byte Is) ((byte < 256) × Holds)
byte_shows byte Is Holds shows bytes h is =
    let all : (byte < 256) × AreBytes is.0 = byte_and_rest bytes byte is.0 is.1 h in
    (all.0, shows is.0 all.1 is.2)

behind_shows : (byte : ℕ) (Is : Spelling) (Holds : Type 0) → Shows Is Holds → Shows (Behind byte Is) Holds
behind_shows byte Is Holds shows bytes h is = (byte_shows byte Is Holds shows bytes h is).1

-- what one spelling shows, and what the one behind it does
then_shows : (Is Next : Spelling) (One Other : Type 0) → Shows Is One → Shows Next Other → Shows (Then Is Next) (One × Other)
then_shows Is Next One Other shows next bytes h is =
    let parts : AreBytes is.first × AreBytes is.rest = parts_of_bytes bytes is.first is.rest is.spelled h in
    (shows is.first parts.0 is.is_first, next is.rest parts.1 is.is_next)

-- what is enclosed shows the same, on whichever level it stands
deeper_shows : (room : ℕ) (Is : ℕ → Spelling) (Holds : Type 0) → ((inner : ℕ) → Shows (Is inner) Holds)
    → Shows (Deeper room (λ inner. Enclosed (Is inner))) Holds
deeper_shows zero Is Holds shows bytes h is = absurd is
deeper_shows (suc room) Is Holds shows bytes h is =
    let parts : AreBytes is.size × AreBytes is.body = parts_of_bytes bytes is.size is.body is.spelled h in
    shows room is.body parts.1 is.is

path_shows : (path : Path) → Shows (IsPath path) (IsGoodPath path)
path_shows path bytes h is = path_is_good path bytes h is

-- what is behind a package's opcode, that of a name, and that of a scope or a device
package_shows : (values : Trees) (room : ℕ) (Hold : Type 0) → ((inner : ℕ) → Shows (SpellValues inner values) Hold)
    → Shows (Deeper room (λ inner. Enclosed (Behind (count_of values) (SpellValues inner values)))) ((count_of values < 256) × Hold)
package_shows values room Hold shows =
    deeper_shows room (λ inner. Behind (count_of values) (SpellValues inner values)) ((count_of values < 256) × Hold)
    (λ inner. byte_shows (count_of values) (SpellValues inner values) Hold (shows inner))

named_shows : (path : Path) (value : Tree) (room : ℕ) (Holds : Type 0) → Shows (SpellsValue room value) Holds
    → Shows (Then (IsPath path) (SpellsValue room value)) (IsGoodPath path × Holds)
named_shows path value room Holds = then_shows (IsPath path) (SpellsValue room value) (IsGoodPath path) Holds (path_shows path)

inside_shows : (path : Path) (terms : Trees) (room : ℕ) (Hold : Type 0) → ((inner : ℕ) → Shows (SpellAll inner terms) Hold)
    → Shows (Deeper room (λ inner. Enclosed (Then (IsPath path) (SpellAll inner terms)))) (IsGoodPath path × Hold)
inside_shows path terms room Hold shows =
    deeper_shows room (λ inner. Then (IsPath path) (SpellAll inner terms)) (IsGoodPath path × Hold)
    (λ inner. then_shows (IsPath path) (SpellAll inner terms) (IsGoodPath path) Hold (path_shows path) (shows inner))

mutual
  unfolding IsGoodValue SpellsValue

  value_good : (t : Tree) (room : ℕ) → Shows (SpellsValue room t) (IsGoodValue t)
  value_good (int n) room bytes h is = tt
  value_good (fixed n) room bytes h is = tt
  value_good ones room bytes h is = tt
  value_good (chars text) room bytes h is = is.0
  value_good (buffer content) room bytes h is = tt
  value_good (pack values) room bytes h is =
      behind_shows 0x12 _ _ (package_shows values room (AreGoodValues values) (values_good values)) bytes h is
  value_good (named path value) room bytes h is = absurd is
  value_good (scope path terms) room bytes h is = absurd is
  value_good (device path terms) room bytes h is = absurd is

  values_good : (ts : Trees) (room : ℕ) → Shows (SpellValues room ts) (AreGoodValues ts)
  values_good no_trees room bytes h is = tt
  values_good (tree t ts) room bytes h is = then_shows _ _ _ _ (value_good t room) (values_good ts room) bytes h is

mutual
  unfolding IsGood Spells

  term_good : (t : Tree) (room : ℕ) → Shows (Spells room t) (IsGood t)
  term_good (named path value) room bytes h is =
      behind_shows 0x08 _ _ (named_shows path value room (IsGoodValue value) (value_good value room)) bytes h is
  term_good (scope path terms) room bytes h is =
      behind_shows 0x10 _ _ (inside_shows path terms room (AreGood terms) (terms_good terms)) bytes h is
  term_good (device path terms) room bytes h is =
      behind_shows 0x5B _ _ (behind_shows 0x82 _ _ (inside_shows path terms room (AreGood terms) (terms_good terms))) bytes h is
  term_good (int n) room bytes h is = absurd is
  term_good (fixed n) room bytes h is = absurd is
  term_good ones room bytes h is = absurd is
  term_good (chars text) room bytes h is = absurd is
  term_good (buffer content) room bytes h is = absurd is
  term_good (pack values) room bytes h is = absurd is

  pub terms_good : (ts : Trees) (room : ℕ) → Shows (SpellAll room ts) (AreGood ts)
  terms_good no_trees room bytes h is = tt
  terms_good (tree t ts) room bytes h is = then_shows _ _ _ _ (term_good t room) (terms_good ts room) bytes h is

mutual
  unfolding HasFittingNumbers SpellsValue

  value_fits : (t : Tree) (room : ℕ) → Shows (SpellsValue room t) (HasFittingNumbers t)
  value_fits (int n) room bytes h is = integer-fits n bytes h is
  value_fits (fixed n) room bytes h is = absurd is
  value_fits ones room bytes h is = tt
  value_fits (chars text) room bytes h is = tt
  value_fits (buffer content) room bytes h is = tt
  value_fits (pack values) room bytes h is =
      (behind_shows 0x12 _ _ (package_shows values room (HaveFittingNumbers values) (values_fit values)) bytes h is).1
  value_fits (named path value) room bytes h is = absurd is
  value_fits (scope path terms) room bytes h is = absurd is
  value_fits (device path terms) room bytes h is = absurd is

  values_fit : (ts : Trees) (room : ℕ) → Shows (SpellValues room ts) (HaveFittingNumbers ts)
  values_fit no_trees room bytes h is = tt
  values_fit (tree t ts) room bytes h is = then_shows _ _ _ _ (value_fits t room) (values_fit ts room) bytes h is

mutual
  unfolding HasFittingNumbers Spells

  term_fits : (t : Tree) (room : ℕ) → Shows (Spells room t) (HasFittingNumbers t)
  term_fits (named path value) room bytes h is =
      (behind_shows 0x08 _ _ (named_shows path value room (HasFittingNumbers value) (value_fits value room)) bytes h is).1
  term_fits (scope path terms) room bytes h is =
      (behind_shows 0x10 _ _ (inside_shows path terms room (HaveFittingNumbers terms) (terms_fit terms)) bytes h is).1
  term_fits (device path terms) room bytes h is =
      (behind_shows 0x5B _ _ (behind_shows 0x82 _ _ (inside_shows path terms room (HaveFittingNumbers terms) (terms_fit terms))) bytes h is).1
  term_fits (int n) room bytes h is = absurd is
  term_fits (fixed n) room bytes h is = absurd is
  term_fits ones room bytes h is = absurd is
  term_fits (chars text) room bytes h is = absurd is
  term_fits (buffer content) room bytes h is = absurd is
  term_fits (pack values) room bytes h is = absurd is

  pub terms_fit : (ts : Trees) (room : ℕ) → Shows (SpellAll room ts) (HaveFittingNumbers ts)
  terms_fit no_trees room bytes h is = tt
  terms_fit (tree t ts) room bytes h is = then_shows _ _ _ _ (term_fits t room) (terms_fit ts room) bytes h is
