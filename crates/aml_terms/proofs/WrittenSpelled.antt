-- What is written spells the same terms, with each fixed integer an integer.
use Rattle.std.proofs.Common.{◌≡◌, ℕ, zero, suc, ◌≤◌, List, [], ◌∷◌, ◌++◌, length, refl, sym, ap, subst, arith, length-append, append-nil}
use Rattle.std.specs.Prelude.{⊤}
use Rattle.aml_terms.specs.declared.term.Path.{Path}
use Rattle.aml_terms.specs.Trees.{Tree, Trees, int, fixed, ones, chars, buffer, pack, named, scope, device, no_trees, tree, count_of}
use Rattle.aml_terms.specs.Lengths.{IsInteger}
use Rattle.aml_terms.specs.Paths.{IsGoodPath, IsPath}
use Rattle.aml_terms.specs.Grammar.{Spelling, Then, Enclosed, Behind, Deeper, IsBuffer, SpellsValue, SpellValues, Spells, SpellAll}
use Rattle.aml_terms.specs.WellFormed.{IsGood, AreGood, IsGoodValue, AreGoodValues, HasFittingNumbers, HaveFittingNumbers, Below, NestsIn, NestIn}
use Rattle.aml_terms.specs.WellFormed.{plain, all_plain}
use Rattle.aml_terms.specs.Written.{most_enclosed, package_length, integer, path_bytes, written, spelled, all_spelled, IsShort, AreShort}
use Rattle.aml_terms.proofs.BytesOfParts.{all_spelled-tree}
use Rattle.aml_terms.proofs.WrittenNumbers.{enclosed_is, dword_is, integer_is}
use Rattle.aml_terms.proofs.WrittenPaths.{path_is}

-- a spelling behind a byte, and one behind another
behind_is : (byte : ℕ) (Is : Spelling) (rest : List ℕ) → Is rest → Behind byte Is (byte ∷ rest)
behind_is byte Is rest is = (rest, refl, is)

then_is : (Is Next : Spelling) (first rest : List ℕ) → Is first → Next rest → Then Is Next (first ++ rest)
then_is Is Next first rest is next = record { first = first; rest = rest; spelled = refl; is_first = is; is_next = next }

-- a body behind the length that is written for it, where there is room for what it needs
packaged_is : (room : ℕ) (Needs : ℕ → Type 0) (Is : ℕ → Spelling) (body : List ℕ) → length body ≤ most_enclosed → Below room Needs
    → ((inner : ℕ) → Needs inner → Is inner body) → Deeper room (λ inner. Enclosed (Is inner)) (package_length (length body) ++ body)
packaged_is zero Needs Is body short_enough none is = absurd none
packaged_is (suc room) Needs Is body short_enough needs is = enclosed_is (Is room) body short_enough (is room needs)

-- A buffer's size and its bytes, which a package length can enclose: so its size fits.
buffer_is : (content : List ℕ) → length ((integer (length content) ++ content) ++ []) ≤ most_enclosed
    → IsBuffer content ((integer (length content) ++ content) ++ [])
buffer_is content short_enough =
    let size : List ℕ = integer (length content) in
    let few : length content ≤ most_enclosed = omega (arith, length-append (size ++ content) [], length-append size content) in
    subst (IsBuffer content) (sym (append-nil (size ++ content)))
    (then_is (IsInteger (length content)) (λ bytes. bytes ≡ content) size content (integer_is (length content) (omega arith)) refl)

count_of-plain : (ts : Trees) → count_of (all_plain ts) ≡ count_of ts
unfolding all_plain
count_of-plain no_trees = refl
count_of-plain (tree t ts) = ap suc (count_of-plain ts)

-- a package behind its opcode
package_is : (values : Trees) (room : ℕ) → length (count_of values ∷ all_spelled values) ≤ most_enclosed
    → Below room (λ inner. NestIn inner values) → ((inner : ℕ) → NestIn inner values → SpellValues inner (all_plain values) (all_spelled values))
    → Deeper room (λ inner. Enclosed (Behind (count_of (all_plain values)) (SpellValues inner (all_plain values))))
    (package_length (length (count_of values ∷ all_spelled values)) ++ (count_of values ∷ all_spelled values))
package_is values room short_enough nests are =
    let Is : ℕ → Spelling = λ inner. Behind (count_of (all_plain values)) (SpellValues inner (all_plain values)) in
    let first : count_of values ∷ all_spelled values ≡ count_of (all_plain values) ∷ all_spelled values =
    ap (λ count. count ∷ all_spelled values) (sym (count_of-plain values)) in
    packaged_is room (λ inner. NestIn inner values) Is (count_of values ∷ all_spelled values) short_enough nests
    (λ inner nest. (all_spelled values, first, are inner nest))

mutual
  unfolding written plain IsShort IsGoodValue HasFittingNumbers NestsIn SpellsValue

  pub value_is : (t : Tree) (room : ℕ) → IsGoodValue t → HasFittingNumbers t → IsShort t → NestsIn room t → SpellsValue room (plain t) (spelled t)
  value_is (int n) room good fits short nests = subst (IsInteger n) (sym (append-nil (integer n))) (integer_is n fits)
  value_is (fixed n) room good fits short nests = dword_is n fits
  value_is ones room good fits short nests = refl
  value_is (chars text) room good fits short nests = (good, ap (λ bytes. 0x0D ∷ bytes) (append-nil (text ++ 0 ∷ [])))
  value_is (buffer content) room good fits short nests =
      let text : List ℕ = (integer (length content) ++ content) ++ [] in
      behind_is 0x11 (Deeper room (λ inner. Enclosed (IsBuffer content))) (package_length (length text) ++ text)
      (packaged_is room (λ inner. ⊤) (λ inner. IsBuffer content) text short nests (λ inner needs. buffer_is content short))
  value_is (pack values) room good fits short nests =
      let text : List ℕ = count_of values ∷ all_spelled values in
      behind_is 0x12 (Deeper room (λ inner. Enclosed (Behind (count_of (all_plain values)) (SpellValues inner (all_plain values)))))
      (package_length (length text) ++ text) (package_is values room short.0 nests (λ inner. values_are values inner good.1 fits short.1))
  value_is (named path value) room good fits short nests = absurd good
  value_is (scope path terms) room good fits short nests = absurd good
  value_is (device path terms) room good fits short nests = absurd good

  pub values_are : (ts : Trees) (room : ℕ) → AreGoodValues ts → HaveFittingNumbers ts → AreShort ts → NestIn room ts
      → SpellValues room (all_plain ts) (all_spelled ts)
  values_are no_trees room good fit short nest = refl
  values_are (tree t ts) room good fit short nest =
      subst (Then (SpellsValue room (plain t)) (SpellValues room (all_plain ts))) (sym (all_spelled-tree t ts))
      (then_is (SpellsValue room (plain t)) (SpellValues room (all_plain ts)) (spelled t) (all_spelled ts)
      (value_is t room good.0 fit.0 short.0 nest.0) (values_are ts room good.1 fit.1 short.1 nest.1))

-- a name, and a scope or a device, behind their opcodes
named_is : (path : Path) (value : Tree) (room : ℕ) → IsGoodPath path → SpellsValue room (plain value) (spelled value)
    → Then (IsPath path) (SpellsValue room (plain value)) (path_bytes path ++ spelled value)
named_is path value room good is =
    then_is (IsPath path) (SpellsValue room (plain value)) (path_bytes path) (spelled value) (path_is path good) is

inside_is : (path : Path) (terms : Trees) (room : ℕ) → IsGoodPath path → length (path_bytes path ++ all_spelled terms) ≤ most_enclosed
    → Below room (λ inner. NestIn inner terms) → ((inner : ℕ) → NestIn inner terms → SpellAll inner (all_plain terms) (all_spelled terms))
    → Deeper room (λ inner. Enclosed (Then (IsPath path) (SpellAll inner (all_plain terms))))
    (package_length (length (path_bytes path ++ all_spelled terms)) ++ (path_bytes path ++ all_spelled terms))
inside_is path terms room good short_enough nests are =
    let Is : ℕ → Spelling = λ inner. Then (IsPath path) (SpellAll inner (all_plain terms)) in
    packaged_is room (λ inner. NestIn inner terms) Is (path_bytes path ++ all_spelled terms) short_enough nests
    (λ inner nest. then_is (IsPath path) (SpellAll inner (all_plain terms)) (path_bytes path) (all_spelled terms) (path_is path good) (are inner nest))

mutual
  unfolding written plain IsShort IsGood HasFittingNumbers NestsIn Spells

  term_is : (t : Tree) (room : ℕ) → IsGood t → HasFittingNumbers t → IsShort t → NestsIn room t → Spells room (plain t) (spelled t)
  term_is (named path value) room good fits short nests =
      behind_is 0x08 (Then (IsPath path) (SpellsValue room (plain value))) (path_bytes path ++ spelled value)
      (named_is path value room good.0 (value_is value room good.1 fits short nests))
  term_is (scope path terms) room good fit short nests =
      let text : List ℕ = path_bytes path ++ all_spelled terms in
      behind_is 0x10 (Deeper room (λ inner. Enclosed (Then (IsPath path) (SpellAll inner (all_plain terms))))) (package_length (length text) ++ text)
      (inside_is path terms room good.0 short.0 nests (λ inner. terms_are terms inner good.1 fit short.1))
  term_is (device path terms) room good fit short nests =
      let text : List ℕ = path_bytes path ++ all_spelled terms in
      let Is : Spelling = Deeper room (λ inner. Enclosed (Then (IsPath path) (SpellAll inner (all_plain terms)))) in
      behind_is 0x5B (Behind 0x82 Is) (0x82 ∷ (package_length (length text) ++ text))
      (behind_is 0x82 Is (package_length (length text) ++ text)
      (inside_is path terms room good.0 short.0 nests (λ inner. terms_are terms inner good.1 fit short.1)))
  term_is (int n) room good fits short nests = absurd good
  term_is (fixed n) room good fits short nests = absurd good
  term_is ones room good fits short nests = absurd good
  term_is (chars text) room good fits short nests = absurd good
  term_is (buffer content) room good fits short nests = absurd good
  term_is (pack values) room good fits short nests = absurd good

  pub terms_are : (ts : Trees) (room : ℕ) → AreGood ts → HaveFittingNumbers ts → AreShort ts → NestIn room ts
      → SpellAll room (all_plain ts) (all_spelled ts)
  terms_are no_trees room good fit short nest = refl
  terms_are (tree t ts) room good fit short nest =
      subst (Then (Spells room (plain t)) (SpellAll room (all_plain ts))) (sym (all_spelled-tree t ts))
      (then_is (Spells room (plain t)) (SpellAll room (all_plain ts)) (spelled t) (all_spelled ts) (term_is t room good.0 fit.0 short.0 nest.0)
      (terms_are ts room good.1 fit.1 short.1 nest.1))
