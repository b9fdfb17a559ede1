-- What can be written, and in how many bytes at most: each part of a term by what it is made of.
use Rattle.std.proofs.Common.{◌≡◌, ℕ, suc, ◌+◌, ◌*◌, ◌^◌, ◌<◌, ◌≤◌, List, [], ◌∷◌, ◌++◌, length, map, refl, ap, ap₂, arith, length-append, ◌∙◌}
use Rattle.std.specs.List.{AllByRecursion}
use Rattle.vt_bytes.specs.Numbers.{le_bytes}
use Rattle.vt_bytes.proofs.Each.{each_append}
use Rattle.vt_bytes.proofs.Numbers.{length-le_bytes}
use Rattle.aml_terms.specs.declared.term.Path.{Path}
use Rattle.aml_terms.specs.declared.term.Term.{Term}
use Rattle.aml_terms.specs.Trees.{Tree, int, fixed, chars, buffer, pack, named, scope, device, view, views, count_of, tree}
use Rattle.aml_terms.specs.Paths.{IsSegment, IsGoodPath}
use Rattle.aml_terms.specs.Grammar.{IsChar}
use Rattle.aml_terms.specs.WellFormed.{IsGood, AreGood, IsGoodValue, AreGoodValues, HasFittingNumbers, HaveFittingNumbers, NestsIn, NestIn, plain, all_plain}
use Rattle.aml_terms.specs.Written.{most_enclosed, package_length, integer, path_bytes, written, spelled, all_spelled, IsShort, AreShort}
use Rattle.aml_terms.proofs.BytesOfParts.{all_spelled-tree}
use Rattle.dsdt_terms.specs.Names.{path_to}
use Rattle.dsdt_terms.proofs.Sizes.{package_length-most, integer-most, segment-length}

-- What is said of a tree only where it holds: that the numbers of its machine fit their fields, and that no integer is always a dword.
pub record Premises : Type 1 where
  pub fit : Type 0
  pub plain : Type 0

-- A tree is well formed, nests in so many levels and has short packages. Its numbers fit, and none is always a dword, where that is so.
pub record IsSound (Good : Tree → Type 0) (P : Premises) (room : ℕ) (t : Tree) : Type 0 where
  pub good : Good t
  pub fits : P.fit → HasFittingNumbers t
  pub nests : NestsIn room t
  pub same : P.plain → plain t ≡ t
  pub short : IsShort t

-- such a tree of at most so many bytes
pub record IsPart (Good : Tree → Type 0) (P : Premises) (room most : ℕ) (t : Tree) : Type 0 where
  pub sound : IsSound Good P room t
  pub size : length (spelled t) ≤ most

-- terms of such trees, which have at most so many bytes together
pub record AreParts (Good : Tree → Type 0) (P : Premises) (room most : ℕ) (ts : List Term) : Type 0 where
  pub each : AllByRecursion (λ t. IsSound Good P room (view t)) ts
  pub size : length (all_spelled (views ts)) ≤ most

-- none, one more, and some behind others
pub no_parts : (Good : Tree → Type 0) (P : Premises) (room : ℕ) → AreParts Good P room 0 []
unfolding written
no_parts Good P room = record { each = tt; size = omega arith }

size-more : (t : Term) (ts : List Term) → length (all_spelled (views (t ∷ ts))) ≡ length (spelled (view t)) + length (all_spelled (views ts))
size-more t ts = ap length (all_spelled-tree (view t) (views ts)) ∙ length-append (spelled (view t)) (all_spelled (views ts))

pub one_more : (Good : Tree → Type 0) (P : Premises) (room few most : ℕ) (t : Term) (ts : List Term) → IsPart Good P room few (view t)
    → AreParts Good P room most ts → AreParts Good P room (few + most) (t ∷ ts)
one_more Good P room few most t ts part parts = record {
  each = (part.sound, parts.each);
  size = omega (arith, size-more t ts, part.size, parts.size);
}

size-append : (ts us : List Term) → length (all_spelled (views (ts ++ us))) ≡ length (all_spelled (views ts)) + length (all_spelled (views us))
unfolding written
size-append [] us = omega arith
size-append (t ∷ ts) us = omega (arith, size-more t (ts ++ us), size-more t ts, size-append ts us)

pub both_parts : (Good : Tree → Type 0) (P : Premises) (room few most : ℕ) (ts us : List Term) → AreParts Good P room few ts
    → AreParts Good P room most us → AreParts Good P room (few + most) (ts ++ us)
both_parts Good P room few most ts us first others = record {
  each = each_append (λ t. IsSound Good P room (view t)) ts us first.each others.each;
  size = omega (arith, size-append ts us, first.size, others.size);
}

-- more than enough
pub enough : (Good : Tree → Type 0) (P : Premises) (room few most : ℕ) (ts : List Term) → few ≤ most → AreParts Good P room few ts
    → AreParts Good P room most ts
enough Good P room few most ts less parts = record { each = parts.each; size = omega (arith, parts.size) }

-- what is made of the elements of a list, each of at most so many bytes
pub each_part : {A : Type 0} (Good : Tree → Type 0) (P : Premises) (room few : ℕ) (f : A → Term) (elements : List A)
    → AllByRecursion (λ a. IsPart Good P room few (view (f a))) elements → AreParts Good P room (few * length elements) (map f elements)
each_part Good P room few f [] each =
    enough Good P room 0 (few * 0) [] (omega arith) (no_parts Good P room)
each_part Good P room few f (a ∷ elements) each =
    let more = one_more Good P room few (few * length elements) (f a) (map f elements) each.0 (each_part Good P room few f elements each.1) in
    enough Good P room (few + few * length elements) (few * suc (length elements)) (f a ∷ map f elements) (omega arith) more

-- what holds of each holds of all

pub all_good : (P : Premises) (room : ℕ) (ts : List Term) → AllByRecursion (λ t. IsSound IsGood P room (view t)) ts → AreGood (views ts)
unfolding IsGood
all_good P room [] each = tt
all_good P room (t ∷ ts) each = (each.0.good, all_good P room ts each.1)

values_good : (P : Premises) (room : ℕ) (ts : List Term) → AllByRecursion (λ t. IsSound IsGoodValue P room (view t)) ts
    → AreGoodValues (views ts)
unfolding IsGoodValue
values_good P room [] each = tt
values_good P room (t ∷ ts) each = (each.0.good, values_good P room ts each.1)

pub all_fit : (Good : Tree → Type 0) (P : Premises) (room : ℕ) (ts : List Term) → AllByRecursion (λ t. IsSound Good P room (view t)) ts
    → P.fit → HaveFittingNumbers (views ts)
unfolding HasFittingNumbers
all_fit Good P room [] each fit = tt
all_fit Good P room (t ∷ ts) each fit = (each.0.fits fit, all_fit Good P room ts each.1 fit)

pub all_nest : (Good : Tree → Type 0) (P : Premises) (room : ℕ) (ts : List Term) → AllByRecursion (λ t. IsSound Good P room (view t)) ts
    → NestIn room (views ts)
unfolding NestsIn
all_nest Good P room [] each = tt
all_nest Good P room (t ∷ ts) each = (each.0.nests, all_nest Good P room ts each.1)

pub all_same : (Good : Tree → Type 0) (P : Premises) (room : ℕ) (ts : List Term) → AllByRecursion (λ t. IsSound Good P room (view t)) ts
    → P.plain → all_plain (views ts) ≡ views ts
unfolding plain
all_same Good P room [] each are = refl
all_same Good P room (t ∷ ts) each are = ap₂ tree (each.0.same are) (all_same Good P room ts each.1 are)

pub all_short : (Good : Tree → Type 0) (P : Premises) (room : ℕ) (ts : List Term) → AllByRecursion (λ t. IsSound Good P room (view t)) ts
    → AreShort (views ts)
unfolding IsShort
all_short Good P room [] each = tt
all_short Good P room (t ∷ ts) each = (each.0.short, all_short Good P room ts each.1)

count_of-views : (ts : List Term) → count_of (views ts) ≡ length ts
count_of-views [] = refl
count_of-views (t ∷ ts) = ap suc (count_of-views ts)

-- an integer, one that is always a dword, a text, and a buffer

pub int_part : (P : Premises) (room most n : ℕ) → (P.fit → n < 2 ^ 64) → length (integer n) ≤ most → IsPart IsGoodValue P room most (int n)
unfolding IsGoodValue HasFittingNumbers NestsIn plain IsShort written
int_part P room most n fits size = record {
  sound = record { good = tt; fits = fits; nests = tt; same = λ are. refl; short = tt };
  size = omega (arith, size, length-append (integer n) []);
}

pub dword_part : (P : Premises) (room n : ℕ) → (P.fit → n < 2 ^ 32) → (P.plain → ⊥) → IsPart IsGoodValue P room 9 (fixed n)
unfolding IsGoodValue HasFittingNumbers NestsIn plain IsShort written
dword_part P room n fits not_plain = record {
  sound = record { good = tt; fits = fits; nests = tt; same = λ are. absurd (not_plain are); short = tt };
  size = omega (arith, length-le_bytes 4 n, length-append (0x0C ∷ le_bytes 4 n) []);
}

pub chars_part : (P : Premises) (room : ℕ) (text : List ℕ) → AllByRecursion IsChar text → IsPart IsGoodValue P room (length text + 2) (chars text)
unfolding IsGoodValue HasFittingNumbers NestsIn plain IsShort written
chars_part P room text good = record {
  sound = record { good = good; fits = λ fit. tt; nests = tt; same = λ are. refl; short = tt };
  size = omega (arith, length-append (text ++ 0 ∷ []) [], length-append text (0 ∷ []));
}

pub buffer_part : (P : Premises) (room most : ℕ) (content : List ℕ) → length content ≤ most → most + 9 ≤ most_enclosed
    → IsPart IsGoodValue P (suc room) (most + 14) (buffer content)
unfolding IsGoodValue HasFittingNumbers NestsIn plain IsShort written
buffer_part P room most content few enclosed =
    let size : List ℕ = integer (length content) in
    let text : List ℕ = (size ++ content) ++ [] in
    let whole : length text ≤ most + 9 = omega (arith, integer-most (length content), length-append (size ++ content) [], length-append size content) in
    record {
      sound = record { good = tt; fits = λ fit. tt; nests = tt; same = λ are. refl; short = omega (arith, whole) };
      size = omega (arith, whole, package_length-most (length text), length-append (package_length (length text)) text);
    }

-- a package
pub package_part : (P : Premises) (room most : ℕ) (values : List Term) → length values < 256 → AreParts IsGoodValue P room most values
    → most + 1 ≤ most_enclosed → IsPart IsGoodValue P (suc room) (most + 6) (pack (views values))
unfolding IsGoodValue HasFittingNumbers NestsIn plain IsShort written
package_part P room most values few parts enclosed =
    let text : List ℕ = count_of (views values) ∷ all_spelled (views values) in
    let whole : length text ≤ most + 1 = omega (arith, parts.size) in
    record {
      sound = record {
        good = (omega (arith, count_of-views values), values_good P room values parts.each);
        fits = all_fit IsGoodValue P room values parts.each;
        nests = all_nest IsGoodValue P room values parts.each;
        same = λ are. ap pack (all_same IsGoodValue P room values parts.each are);
        short = (omega (arith, whole), all_short IsGoodValue P room values parts.each);
      };
      size = omega (arith, whole, package_length-most (length text), length-append (package_length (length text)) text);
    }

-- the path to what stands beside it can be written, in four bytes
path_good : (segment : List ℕ) → IsSegment segment → IsGoodPath (path_to segment)
path_good segment is =
    (record { alone = λ root. refl; near = omega arith; segments = (is, tt); some = omega arith }, omega arith)

-- a value with a name
pub name_part : (P : Premises) (room most : ℕ) (segment : List ℕ) (value : Tree) → IsSegment segment → IsPart IsGoodValue P room most value
    → IsPart IsGood P room (most + 5) (named (path_to segment) value)
unfolding IsGood HasFittingNumbers NestsIn plain IsShort written
name_part P room most segment value is part = record {
  sound = record {
    good = (path_good segment is, part.sound.good);
    fits = part.sound.fits;
    nests = part.sound.nests;
    same = λ are. ap (named (path_to segment)) (part.sound.same are);
    short = part.sound.short;
  };
  size = omega (arith, part.size, segment-length segment is, length-append segment (spelled value));
}

-- a device, and a scope
pub device_part : (P : Premises) (room most : ℕ) (segment : List ℕ) (values : List Term) → IsSegment segment → AreParts IsGood P room most values
    → most + 4 ≤ most_enclosed → IsPart IsGood P (suc room) (most + 10) (device (path_to segment) (views values))
unfolding IsGood HasFittingNumbers NestsIn plain IsShort written
device_part P room most segment values is parts enclosed =
    let text : List ℕ = segment ++ all_spelled (views values) in
    let whole : length text ≤ most + 4 = omega (arith, parts.size, segment-length segment is, length-append segment (all_spelled (views values))) in
    record {
      sound = record {
        good = (path_good segment is, all_good P room values parts.each);
        fits = all_fit IsGood P room values parts.each;
        nests = all_nest IsGood P room values parts.each;
        same = λ are. ap (device (path_to segment)) (all_same IsGood P room values parts.each are);
        short = (omega (arith, whole), all_short IsGood P room values parts.each);
      };
      size = omega (arith, whole, package_length-most (length text), length-append (package_length (length text)) text);
    }

pub scope_part : (P : Premises) (room most : ℕ) (path : Path) (terms : List Term) → IsGoodPath path → length (path_bytes path) ≤ 5
    → AreParts IsGood P room most terms → most + 5 ≤ most_enclosed → IsPart IsGood P (suc room) (most + 10) (scope path (views terms))
unfolding IsGood HasFittingNumbers NestsIn plain IsShort written
scope_part P room most path terms good few parts enclosed =
    let text : List ℕ = path_bytes path ++ all_spelled (views terms) in
    let whole : length text ≤ most + 5 = omega (arith, parts.size, few, length-append (path_bytes path) (all_spelled (views terms))) in
    record {
      sound = record {
        good = (good, all_good P room terms parts.each);
        fits = all_fit IsGood P room terms parts.each;
        nests = all_nest IsGood P room terms parts.each;
        same = λ are. ap (scope path) (all_same IsGood P room terms parts.each are);
        short = (omega (arith, whole), all_short IsGood P room terms parts.each);
      };
      size = omega (arith, whole, package_length-most (length text), length-append (package_length (length text)) text);
    }
