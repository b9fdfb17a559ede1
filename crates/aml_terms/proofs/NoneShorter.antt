-- No spelling of terms is shorter than the one that is written.
use Rattle.std.proofs.Common.{ℕ, zero, suc, ◌<◌, ◌≤◌, List, [], ◌∷◌, ◌++◌, length, sym, ap, subst, arith, length-append}
use Rattle.aml_terms.specs.declared.term.Path.{Path}
use Rattle.aml_terms.specs.Trees.{Tree, Trees, int, fixed, ones, chars, buffer, pack, named, scope, device, no_trees, tree, count_of}
use Rattle.aml_terms.specs.Paths.{IsPath}
use Rattle.aml_terms.specs.Grammar.{Spelling, Then, Enclosed, Behind, Deeper, IsBuffer, SpellsValue, SpellValues, Spells, SpellAll}
use Rattle.aml_terms.specs.Written.{package_length, integer, path_bytes, written, spelled, all_spelled}
use Rattle.aml_terms.proofs.ByteLists.{AreBytes, parts_of_bytes, byte_and_rest}
use Rattle.aml_terms.proofs.BytesOfParts.{all_spelled-tree}
use Rattle.aml_terms.proofs.ShortestNumbers.{enclosed-least, integer-least}
use Rattle.aml_terms.proofs.WrittenPaths.{path-least}

-- bytes that are spelled so are no shorter than a text
abbrev IsLeast : List ℕ → Spelling → Type 0
IsLeast text Is = (bytes : List ℕ) → AreBytes bytes → Is bytes → length text ≤ length bytes

-- a byte and a text, a text behind another, and one behind its length
behind-least : (byte : ℕ) (text : List ℕ) (Is : Spelling) → IsLeast text Is → IsLeast (byte ∷ text) (Behind byte Is)
behind-least byte text Is least bytes h is =
    let all : (byte < 256) × AreBytes is.0 = byte_and_rest bytes byte is.0 is.1 h in
    let rest : length text ≤ length is.0 = least is.0 all.1 is.2 in
    omega (arith, ap length is.1)

then-least : (first rest : List ℕ) (Is Next : Spelling) → IsLeast first Is → IsLeast rest Next → IsLeast (first ++ rest) (Then Is Next)
then-least first rest Is Next least next bytes h is =
    let parts : AreBytes is.first × AreBytes is.rest = parts_of_bytes bytes is.first is.rest is.spelled h in
    let one : length first ≤ length is.first = least is.first parts.0 is.is_first in
    let other : length rest ≤ length is.rest = next is.rest parts.1 is.is_next in
    omega (arith, ap length is.spelled, length-append is.first is.rest, length-append first rest)

deeper-least : (room : ℕ) (text : List ℕ) (Is : ℕ → Spelling) → ((inner : ℕ) → IsLeast text (Is inner))
    → IsLeast (package_length (length text) ++ text) (Deeper room (λ inner. Enclosed (Is inner)))
deeper-least zero text Is least bytes h is = absurd is
deeper-least (suc room) text Is least bytes h is =
    omega (arith, enclosed-least (Is room) bytes text h is (least room), length-append (package_length (length text)) text)

path_is_least : (path : Path) → IsLeast (path_bytes path) (IsPath path)
path_is_least path bytes h is = path-least path bytes is

buffer-least : (content : List ℕ) → IsLeast ((integer (length content) ++ content) ++ []) (IsBuffer content)
buffer-least content bytes h is =
    let parts : AreBytes is.first × AreBytes is.rest = parts_of_bytes bytes is.first is.rest is.spelled h in
    let size : length (integer (length content)) ≤ length is.first = integer-least (length content) is.first parts.0 is.is_first in
    omega (
      arith,
      ap length is.spelled,
      length-append is.first is.rest,
      ap length is.is_next,
      length-append (integer (length content) ++ content) [],
      length-append (integer (length content)) content,
    )

mutual
  unfolding written SpellsValue

  value-least : (t : Tree) (room : ℕ) → IsLeast (spelled t) (SpellsValue room t)
  value-least (int n) room = λ bytes h is. omega (arith, integer-least n bytes h is, length-append (integer n) [])
  value-least (fixed n) room = λ bytes h is. absurd is
  value-least ones room = λ bytes h is. omega (arith, ap length is)
  value-least (chars text) room = λ bytes h is. omega (arith, ap length is.1, length-append (text ++ 0 ∷ []) [])
  value-least (buffer content) room =
      let text : List ℕ = (integer (length content) ++ content) ++ [] in
      behind-least 0x11 (package_length (length text) ++ text) (Deeper room (λ inner. Enclosed (IsBuffer content)))
      (deeper-least room text (λ inner. IsBuffer content) (λ inner. buffer-least content))
  value-least (pack values) room =
      let text : List ℕ = count_of values ∷ all_spelled values in
      behind-least 0x12 (package_length (length text) ++ text) (Deeper room (λ inner. Enclosed (Behind (count_of values) (SpellValues inner values))))
      (deeper-least room text (λ inner. Behind (count_of values) (SpellValues inner values))
      (λ inner. behind-least (count_of values) (all_spelled values) (SpellValues inner values) (values-least values inner)))
  value-least (named path value) room = λ bytes h is. absurd is
  value-least (scope path terms) room = λ bytes h is. absurd is
  value-least (device path terms) room = λ bytes h is. absurd is

  values-least : (ts : Trees) (room : ℕ) → IsLeast (all_spelled ts) (SpellValues room ts)
  values-least no_trees room = λ bytes h is. omega arith
  values-least (tree t ts) room =
      subst (λ text. IsLeast text (Then (SpellsValue room t) (SpellValues room ts))) (sym (all_spelled-tree t ts))
      (then-least (spelled t) (all_spelled ts) (SpellsValue room t) (SpellValues room ts) (value-least t room) (values-least ts room))

-- a scope or a device behind its opcode
inside-least : (path : Path) (ts : Trees) (room : ℕ) → ((inner : ℕ) → IsLeast (all_spelled ts) (SpellAll inner ts))
    → IsLeast (package_length (length (path_bytes path ++ all_spelled ts)) ++ (path_bytes path ++ all_spelled ts))
    (Deeper room (λ inner. Enclosed (Then (IsPath path) (SpellAll inner ts))))
inside-least path ts room least =
    deeper-least room (path_bytes path ++ all_spelled ts) (λ inner. Then (IsPath path) (SpellAll inner ts))
    (λ inner. then-least (path_bytes path) (all_spelled ts) (IsPath path) (SpellAll inner ts) (path_is_least path) (least inner))

mutual
  unfolding written Spells

  term-least : (t : Tree) (room : ℕ) → IsLeast (spelled t) (Spells room t)
  term-least (named path value) room =
      behind-least 0x08 (path_bytes path ++ spelled value) (Then (IsPath path) (SpellsValue room value))
      (then-least (path_bytes path) (spelled value) (IsPath path) (SpellsValue room value) (path_is_least path) (value-least value room))
  term-least (scope path terms) room =
      let text : List ℕ = path_bytes path ++ all_spelled terms in
      behind-least 0x10 (package_length (length text) ++ text) (Deeper room (λ inner. Enclosed (Then (IsPath path) (SpellAll inner terms))))
      (inside-least path terms room (λ inner. terms-least terms inner))
  term-least (device path terms) room =
      let text : List ℕ = path_bytes path ++ all_spelled terms in
      let Is : Spelling = Deeper room (λ inner. Enclosed (Then (IsPath path) (SpellAll inner terms))) in
      behind-least 0x5B (0x82 ∷ (package_length (length text) ++ text)) (Behind 0x82 Is)
      (behind-least 0x82 (package_length (length text) ++ text) Is (inside-least path terms room (λ inner. terms-least terms inner)))
  term-least (int n) room = λ bytes h is. absurd is
  term-least (fixed n) room = λ bytes h is. absurd is
  term-least ones room = λ bytes h is. absurd is
  term-least (chars text) room = λ bytes h is. absurd is
  term-least (buffer content) room = λ bytes h is. absurd is
  term-least (pack values) room = λ bytes h is. absurd is

  pub terms-least : (ts : Trees) (room : ℕ) → IsLeast (all_spelled ts) (SpellAll room ts)
  terms-least no_trees room = λ bytes h is. omega arith
  terms-least (tree t ts) room =
      subst (λ text. IsLeast text (Then (Spells room t) (SpellAll room ts))) (sym (all_spelled-tree t ts))
      (then-least (spelled t) (all_spelled ts) (Spells room t) (SpellAll room ts) (term-least t room) (terms-least ts room))
