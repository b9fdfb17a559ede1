-- Options in any order say the same.
use Rattle.std.proofs.Common.{Bool, ◌≡◌, ℕ, nat_lt, List, [], ◌∷◌, ◌++◌, true, false, cond, take, drop, filter, length, Option, Some, option_map}
use Rattle.std.proofs.Common.{refl, ap, sym, ◌∙◌, subst, arith}
use Rattle.std.proofs.lemmas.Bool.Decides.{nat_tests}
use Rattle.std.proofs.lemmas.List.{length-map}
use Rattle.std.proofs.lemmas.List.Elements.{All-from_recursion, recursion_from_All}
use Rattle.std.proofs.lemmas.List.Sorted.{All-permutation, sum_by-IsPermutation}
use Rattle.std.proofs.lemmas.List.Sums.{length-filter}
use Rattle.std.proofs.Math.Seq.{take-append_seam, drop-append_seam}
use Rattle.std.specs.List.{AllByRecursion}
use Rattle.std.specs.List.Sorted.{IsPermutation}
use Rattle.std.specs.Option.{option_and_then}
use Rattle.std.specs.Prelude.{◌||◌}
use Rattle.std.specs.Str.{bytes_eq}
use Rattle.word_schema.specs.declared.value.Value.{Value}
use Rattle.word_schema.specs.Forms.{Row, Pair, Schema}
use Rattle.word_schema.specs.Given.{Given, values_named, only, option_value, option_values, operand_values, is_given, are_compatible, options_say}
use Rattle.word_schema.specs.Given.{have_what_they_need, given_by, values_of}
use Rattle.word_schema.proofs.Walking.{values_named-first}

-- what holds of each option of a name holds of their values
pub values_have : (name : List ℕ) (Q : Value → Type 0) (options : List Given)
    → AllByRecursion (λ option. bytes_eq option.name name ≡ true → Q option.value) options
    → AllByRecursion Q (values_named name options)
values_have name Q [] each = tt
values_have name Q (option ∷ rest) each =
    let later = values_have name Q rest each.1 in
    subst (AllByRecursion Q) (sym (values_named-first name option rest))
    (elim (bytes_eq option.name name)
    as (λ is. (bytes_eq option.name name ≡ is) → AllByRecursion Q (cond is (option.value ∷ values_named name rest) (values_named name rest)))
    [ true ↦ λ is. (each.0 is, later) | false ↦ λ is. later ] refl)

-- and the other way
options_have : (name : List ℕ) (Q : Value → Type 0) (options : List Given) → AllByRecursion Q (values_named name options)
    → AllByRecursion (λ option. bytes_eq option.name name ≡ true → Q option.value) options
options_have name Q [] each = tt
options_have name Q (option ∷ rest) each =
    let all : AllByRecursion Q (cond (bytes_eq option.name name) (option.value ∷ values_named name rest) (values_named name rest)) =
    subst (AllByRecursion Q) (values_named-first name option rest) each in
    elim (bytes_eq option.name name)
    as (λ is. (bytes_eq option.name name ≡ is) → AllByRecursion Q (cond is (option.value ∷ values_named name rest) (values_named name rest))
    → (bytes_eq option.name name ≡ true → Q option.value)
    × AllByRecursion (λ other. bytes_eq other.name name ≡ true → Q other.value) rest) [
      | true ↦ λ is all. ((λ yes. all.0), options_have name Q rest all.1)
      | false ↦ λ is all. ((λ yes. absurd (cc)), options_have name Q rest all)
    ] refl all

-- the one value is the same in two lists of one length, where what each value of the first is, each of the other is
only-same : (default : Option Value) (values others : List Value) → length values ≡ length others
    → ((one : Value) → AllByRecursion (λ value. value ≡ one) values → AllByRecursion (λ value. value ≡ one) others)
    → only default values ≡ only default others
only-same default [] [] long each = refl
only-same default [] (other ∷ others) long each = absurd (omega arith)
only-same default (value ∷ values) [] long each = absurd (omega arith)
only-same default (value ∷ []) (other ∷ []) long each = ap Some (sym (each value (refl, tt)).0)
only-same default (value ∷ []) (other ∷ another ∷ others) long each = absurd (omega arith)
only-same default (value ∷ second ∷ values) (other ∷ []) long each = absurd (omega arith)
only-same default (value ∷ second ∷ values) (other ∷ another ∷ others) long each = refl

-- how many values are given
length-values_named : (name : List ℕ) (options others : List Given) → IsPermutation options others
    → length (values_named name options) ≡ length (values_named name others)
length-values_named name options others moved =
    let has_name : Given → Bool = λ option. bytes_eq option.name name in
    let count = sum_by-IsPermutation (λ (option : Given). cond (has_name option) 1 0) options others moved in
    length-map (filter has_name options) (λ (option : Given). option.value)
    ∙ (length-filter has_name options ∙ (sym count
    ∙ (sym (length-filter has_name others) ∙ sym (length-map (filter has_name others) (λ (option : Given). option.value)))))

same_value : (options others : List Given) → IsPermutation options others → (row : Row) → option_value row options ≡ option_value row others
same_value options others moved row =
    only-same row.default (values_named row.name options) (values_named row.name others) (length-values_named row.name options others moved)
    (λ one each.
    let P = λ (option : Given). bytes_eq option.name row.name ≡ true → option.value ≡ one in
    values_have row.name (λ value. value ≡ one) others
    (recursion_from_All P others
    (All-permutation P options others moved (All-from_recursion P options (options_have row.name (λ value. value ≡ one) options each)))))

same_values : (options others : List Given) → IsPermutation options others → (rows : List Row) → option_values rows options ≡ option_values rows others
unfolding option_values
same_values options others moved [] = refl
same_values options others moved (row ∷ rows) = rw (same_value options others moved row, same_values options others moved rows) refl

-- an option is given where a value of its name is
given-length : (name : List ℕ) (given : List Given) → is_given name given ≡ nat_lt 0 (length (values_named name given))
given-length name [] = refl
given-length name (option ∷ given) =
    let later = given-length name given in
    rw (values_named-first name option given, later)
    (elim (bytes_eq option.name name)
    as (λ is. (is || nat_lt 0 (length (values_named name given)))
    ≡ nat_lt 0 (length (cond is (option.value ∷ values_named name given) (values_named name given))))
    [ true ↦ grind (arith, nat_tests) | false ↦ refl ])

same_given : (options others : List Given) → IsPermutation options others → (name : List ℕ) → is_given name options ≡ is_given name others
same_given options others moved name =
    given-length name options ∙ (ap (λ n. nat_lt 0 n) (length-values_named name options others moved) ∙ sym (given-length name others))

same_compatible : (options others : List Given) → IsPermutation options others → (pairs : List Pair)
    → are_compatible pairs options ≡ are_compatible pairs others
same_compatible options others moved [] = refl
same_compatible options others moved (pair ∷ pairs) =
    rw (same_given options others moved pair.one, same_given options others moved pair.other, same_compatible options others moved pairs) refl

same_needs : (options others : List Given) → IsPermutation options others → (pairs : List Pair)
    → have_what_they_need pairs options ≡ have_what_they_need pairs others
same_needs options others moved [] = refl
same_needs options others moved (pair ∷ pairs) =
    rw (same_given options others moved pair.one, same_given options others moved pair.other, same_needs options others moved pairs) refl

same_say : (schema : Schema) (options others : List Given) → IsPermutation options others → options_say schema options ≡ options_say schema others
same_say schema options others moved =
    rw (
      same_compatible options others moved schema.exclusive,
      same_needs options others moved schema.needs,
      same_values options others moved schema.options,
    ) refl

-- what words say that stand behind those of operands
abbrev pub behind_operands : Schema → List (List ℕ) → Option (List Given) → Option (List Value)
behind_operands schema front given =
    option_and_then (λ (values : List Value). option_map (λ (behind : List Value). values ++ behind) (option_and_then (options_say schema) given))
    (operand_values schema.operands front)

pub values_behind : (schema : Schema) (front words : List (List ℕ)) → length front ≡ length schema.operands
    → values_of schema (front ++ words) ≡ behind_operands schema front (given_by schema.options words)
values_behind schema front words long =
    let taken : take (length schema.operands) (front ++ words) ≡ front = ap (λ n. take n (front ++ words)) (sym long) ∙ take-append_seam front words in
    let dropped : drop (length schema.operands) (front ++ words) ≡ words = ap (λ n. drop n (front ++ words)) (sym long) ∙ drop-append_seam front words in
    rw (taken, dropped) refl

pub any_order : (schema : Schema) (front words others : List (List ℕ)) (given moved : List Given) → length front ≡ length schema.operands
    → given_by schema.options words ≡ Some given → given_by schema.options others ≡ Some moved → IsPermutation given moved
    → values_of schema (front ++ words) ≡ values_of schema (front ++ others)
any_order schema front words others given moved long is is_too same =
    let say = same_say schema given moved same in
    values_behind schema front words long
    ∙ (ap (behind_operands schema front) is
    ∙ (rw say refl ∙ (ap (behind_operands schema front) (sym is_too) ∙ sym (values_behind schema front others long))))
