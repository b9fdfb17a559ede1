-- Lists of parts that are there or not, each of its own signature.
use Rattle.std.proofs.Common.{◌≡◌, ℕ, ◌≤◌, Bool, true, false, not, ◌&&◌, List, [], ◌∷◌, ◌++◌, length, map, arith, Option, Some, None, cond, refl, ap}
use Rattle.std.proofs.Common.{sym, subst, ◌∙◌}
use Rattle.std.specs.Prelude.{IfSome, if◌then◌else◌}
use Rattle.std.specs.List.{list_all, AllByRecursion}
use Rattle.std.specs.Str.{bytes_eq}
use Rattle.std.proofs.lemmas.Bool.{and_parts, not-true, false_from_ne_true}
use Rattle.std.proofs.lemmas.Slice.Eq.{bytes_eq-Decides}
use Rattle.vt_bytes.proofs.Each.{each_weaker, each_midst}
use Rattle.acpi_model.specs.declared.acpi.Table.{Table}
use Rattle.acpi_model.specs.Acpi.{signature_of, linked_table, AreDistinct, first_with, present}
use Rattle.acpi_model.proofs.Known.{signature-linked}

-- there are no more of them than parts
pub length-present : (parts : List (Option Table)) → length (present parts) ≤ length parts
length-present [] = omega arith
length-present (None ∷ parts) = omega (arith, length-present parts)
length-present (Some table ∷ parts) = omega (arith, length-present parts)

-- what holds of each part that is there, and of its signature
abbrev pub AreParts : (List ℕ → Table → Type 0) → List (List ℕ) → List (Option Table) → Type 0
AreParts P [] [] = Unit {0}
AreParts P (signature ∷ signatures) (part ∷ parts) = IfSome part (P signature) × AreParts P signatures parts
AreParts P signatures parts = ⊥

part_weaker : (P Q : Table → Type 0) → ((table : Table) → P table → Q table) → (part : Option Table) → IfSome part P → IfSome part Q
part_weaker P Q f None p = tt
part_weaker P Q f (Some table) p = f table p

pub parts_weaker : (P Q : List ℕ → Table → Type 0) → ((signature : List ℕ) (table : Table) → P signature table → Q signature table)
    → (signatures : List (List ℕ)) (parts : List (Option Table)) → AreParts P signatures parts → AreParts Q signatures parts
parts_weaker P Q f [] [] are = tt
parts_weaker P Q f [] (part ∷ parts) are = absurd are
parts_weaker P Q f (signature ∷ signatures) [] are = absurd are
parts_weaker P Q f (signature ∷ signatures) (part ∷ parts) are =
    (part_weaker (P signature) (Q signature) (f signature) part are.0, parts_weaker P Q f signatures parts are.1)

-- so it holds of each table
pub each_present : (P : Table → Type 0) (signatures : List (List ℕ)) (parts : List (Option Table)) → AreParts (λ signature. P) signatures parts
    → AllByRecursion P (present parts)
each_present P [] [] are = tt
each_present P [] (part ∷ parts) are = absurd are
each_present P (signature ∷ signatures) [] are = absurd are
each_present P (signature ∷ signatures) (None ∷ parts) are = each_present P signatures parts are.1
each_present P (signature ∷ signatures) (Some table ∷ parts) are = (are.0, each_present P signatures parts are.1)

-- each part is of its signature
abbrev pub AreSigned : List (List ℕ) → List (Option Table) → Type 0
AreSigned = AreParts (λ signature table. signature_of table ≡ signature)

-- the test of signatures that differ
abbrev pub differs_from_all : List ℕ → List (List ℕ) → Bool
differs_from_all signature signatures = list_all (λ other. not (bytes_eq other signature)) signatures

abbrev pub all_differ : List (List ℕ) → Bool
all_differ [] = true
all_differ (signature ∷ signatures) = differs_from_all signature signatures && all_differ signatures

-- whether a table has a signature
abbrev pub has_signature : List ℕ → Table → Bool
has_signature signature table = bytes_eq (signature_of table) signature

-- none of the tables of other signatures has it
none_has : (wanted : List ℕ) (signatures : List (List ℕ)) (parts : List (Option Table)) → AreSigned signatures parts
    → differs_from_all wanted signatures ≡ true → AllByRecursion (λ table. has_signature wanted table ≡ false) (present parts)
none_has wanted [] [] signed differ = tt
none_has wanted [] (part ∷ parts) signed differ = absurd signed
none_has wanted (signature ∷ signatures) [] signed differ = absurd signed
none_has wanted (signature ∷ signatures) (None ∷ parts) signed differ =
    none_has wanted signatures parts signed.1 (and_parts (not (bytes_eq signature wanted)) (differs_from_all wanted signatures) differ).1
none_has wanted (signature ∷ signatures) (Some table ∷ parts) signed differ =
    let both = and_parts (not (bytes_eq signature wanted)) (differs_from_all wanted signatures) differ in (
      ap (λ s. bytes_eq s wanted) signed.0 ∙ not-true (bytes_eq signature wanted) both.0,
      none_has wanted signatures parts signed.1 both.1,
    )

-- so none of them is found
none_found : (wanted : List ℕ) (tables : List Table) → AllByRecursion (λ table. has_signature wanted table ≡ false) tables
    → first_with wanted tables ≡ None
none_found wanted [] none = refl
none_found wanted (table ∷ tables) none =
    ap (λ is. cond is (Some table) (first_with wanted tables)) none.0 ∙ none_found wanted tables none.1

-- the part of a signature
abbrev pub part_of : List ℕ → List (List ℕ) → List (Option Table) → Option Table
part_of wanted [] parts = None
part_of wanted (signature ∷ signatures) [] = None
part_of wanted (signature ∷ signatures) (part ∷ parts) = if bytes_eq signature wanted then part else part_of wanted signatures parts

-- one part more in front
first_or_later : (wanted signature : List ℕ) (part : Option Table) (parts : List (Option Table)) (later : Option Table) (is : Bool)
    → bytes_eq signature wanted ≡ is → IfSome part (λ table. signature_of table ≡ signature)
    → (is ≡ true → first_with wanted (present parts) ≡ None) → first_with wanted (present parts) ≡ later
    → first_with wanted (present (part ∷ parts)) ≡ cond is part later
first_or_later wanted signature None parts later true is signed none rest = none refl
first_or_later wanted signature None parts later false is signed none rest = rest
first_or_later wanted signature (Some table) parts later true is signed none rest =
    ap (λ test. cond test (Some table) (first_with wanted (present parts))) (ap (λ s. bytes_eq s wanted) signed ∙ is)
first_or_later wanted signature (Some table) parts later false is signed none rest =
    ap (λ test. cond test (Some table) (first_with wanted (present parts))) (ap (λ s. bytes_eq s wanted) signed ∙ is) ∙ rest

-- it is the first table of that signature among the parts that are there
pub first-present : (wanted : List ℕ) (signatures : List (List ℕ)) (parts : List (Option Table)) → AreSigned signatures parts
    → all_differ signatures ≡ true → first_with wanted (present parts) ≡ part_of wanted signatures parts
first-present wanted [] [] signed differ = refl
first-present wanted [] (part ∷ parts) signed differ = absurd signed
first-present wanted (signature ∷ signatures) [] signed differ = absurd signed
first-present wanted (signature ∷ signatures) (part ∷ parts) signed differ =
    let both = and_parts (differs_from_all signature signatures) (all_differ signatures) differ in
    first_or_later wanted signature part parts (part_of wanted signatures parts) (bytes_eq signature wanted) refl signed.0
    (λ is. none_found wanted (present parts) (none_has wanted signatures parts signed.1
    (subst (λ s. differs_from_all s signatures ≡ true) ((bytes_eq-Decides signature wanted).0 is) both.0)))
    (first-present wanted signatures parts signed.1 both.1)

-- no two of the parts that are there have one signature
pub distinct-present : (signatures : List (List ℕ)) (parts : List (Option Table)) → AreSigned signatures parts → all_differ signatures ≡ true
    → AreDistinct (present parts)
distinct-present [] [] signed differ = tt
distinct-present [] (part ∷ parts) signed differ = absurd signed
distinct-present (signature ∷ signatures) [] signed differ = absurd signed
distinct-present (signature ∷ signatures) (None ∷ parts) signed differ =
    distinct-present signatures parts signed.1 (and_parts (differs_from_all signature signatures) (all_differ signatures) differ).1
distinct-present (signature ∷ signatures) (Some table ∷ parts) signed differ =
    let both = and_parts (differs_from_all signature signatures) (all_differ signatures) differ in (
      each_weaker (λ other. has_signature signature other ≡ false) (λ other. signature_of other ≡ signature_of table → ⊥)
          (λ other none same.
          let is : has_signature signature other ≡ true = (bytes_eq-Decides (signature_of other) signature).1 (same ∙ signed.0) in
          cc (is, none)) (present parts) (none_has signature signatures parts signed.1 both.0),
      distinct-present signatures parts signed.1 both.1,
    )

-- nor have they where their pointers lead elsewhere
others_linked : (place_of : List ℕ → ℕ) (table : Table) (tables : List Table)
    → AllByRecursion (λ other. signature_of other ≡ signature_of table → ⊥) tables
    → AllByRecursion (λ other. signature_of other ≡ signature_of (linked_table place_of table) → ⊥) (map (linked_table place_of) tables)
others_linked place_of table [] differ = tt
others_linked place_of table (other ∷ tables) differ = (
  λ same. differ.0 (sym (signature-linked place_of other) ∙ same ∙ signature-linked place_of table),
  others_linked place_of table tables differ.1,
)

pub distinct-linked : (place_of : List ℕ → ℕ) (tables : List Table) → AreDistinct tables → AreDistinct (map (linked_table place_of) tables)
distinct-linked place_of [] distinct = tt
distinct-linked place_of (table ∷ tables) distinct =
    (others_linked place_of table tables distinct.0, distinct-linked place_of tables distinct.1)

-- a table of a list in which no two have one signature is the first with its own
pub found_by_signature : (front back : List Table) (table : Table) → AreDistinct (front ++ table ∷ back)
    → first_with (signature_of table) (front ++ table ∷ back) ≡ Some table
found_by_signature [] back table distinct =
    ap (λ is. cond is (Some table) (first_with (signature_of table) back)) ((bytes_eq-Decides (signature_of table) (signature_of table)).1 refl)
found_by_signature (first ∷ front) back table distinct =
    let differ : signature_of table ≡ signature_of first → ⊥ =
    each_midst (λ other. signature_of other ≡ signature_of first → ⊥) front table back distinct.0 in
    let test : has_signature (signature_of table) first ≡ false =
    false_from_ne_true (has_signature (signature_of table) first) (λ is. differ (sym ((bytes_eq-Decides (signature_of first) (signature_of table)).0 is))) in
    ap (λ is. cond is (Some first) (first_with (signature_of table) (front ++ table ∷ back))) test
    ∙ found_by_signature front back table distinct.1
