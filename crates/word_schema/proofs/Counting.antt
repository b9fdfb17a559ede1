-- How many values are given: where each option is given once at most, no more than there are options.
use Rattle.std.proofs.Common.{◌≡◌, ℕ, suc, ◌+◌, ◌<◌, ◌≤◌, List, [], ◌∷◌, ◌++◌, true, false, cond, length, Option, Some, None, IsSome, refl, ap, sym}
use Rattle.std.proofs.Common.{◌∙◌, subst, arith}
use Rattle.std.proofs.lemmas.List.{length-append}
use Rattle.std.specs.List.{AllByRecursion}
use Rattle.std.specs.Option.{option_and_then}
use Rattle.std.specs.Str.{bytes_eq}
use Rattle.word_schema.specs.declared.value.Value.{Value}
use Rattle.word_schema.specs.declared.given.Given.{Given as CodeGiven}
use Rattle.word_schema.specs.declared.schema.OptionSchema.{OptionSchema}
use Rattle.word_schema.specs.Forms.{Row, rows_of}
use Rattle.word_schema.specs.Given.{Given, row_named, values_named, only, option_value, option_values, with_given, given_by}
use Rattle.word_schema.specs.Steps.{options_given}
use Rattle.word_schema.proofs.Found.{mapped, behind_it, bytes_eq-sym}
use Rattle.word_schema.proofs.Fronts.{behind}
use Rattle.word_schema.proofs.Walking.{values_named-first}
use Rattle.word_schema.proofs.Spelling.{given_is_spelled, are_named}

-- how many values are given for the names of rows
total : List Row → List Given → ℕ
total [] given = 0
total (row ∷ rows) given = length (values_named row.name given) + total rows given

-- one more option gives no fewer values
no_fewer : (name : List ℕ) (option : Given) (given : List Given) → length (values_named name given) ≤ length (values_named name (option ∷ given))
no_fewer name option given =
    let P : List Value → Type 0 = λ values. length (values_named name given) ≤ length values in
    subst P (sym (values_named-first name option given))
    (elim (bytes_eq option.name name) as (λ is. length (values_named name given) ≤ length
    (cond is (option.value ∷ values_named name given) (values_named name given)))
    [ true ↦ omega arith | false ↦ omega arith ])

one_more : (name : List ℕ) (option : Given) (given : List Given) → bytes_eq option.name name ≡ true
    → length (values_named name (option ∷ given)) ≡ length (values_named name given) + 1
one_more name option given same = rw (values_named-first name option given, same) (omega arith)

none_less : (rows : List Row) (option : Given) (given : List Given) → total rows given ≤ total rows (option ∷ given)
unfolding total
none_less [] option given = omega arith
none_less (row ∷ rows) option given = omega (arith, no_fewer row.name option given, none_less rows option given)

-- an option of the rows gives one more
counts : (rows : List Row) (option : Given) (given : List Given) → IsSome (row_named option.name rows) → total rows given + 1 ≤ total rows (option ∷ given)
unfolding total
counts [] option given is = absurd (cc)
counts (row ∷ rows) option given is =
    elim (bytes_eq row.name option.name)
    as (λ same. (bytes_eq row.name option.name ≡ same) → IsSome (cond same (Some row) (row_named option.name rows))
    → total (row ∷ rows) given + 1 ≤ total (row ∷ rows) (option ∷ given)) [
      | true ↦ λ same is. omega (arith, one_more row.name option given (bytes_eq-sym option.name row.name ∙ same), none_less rows option given)
      | false ↦ λ same is. omega (arith, no_fewer row.name option given, counts rows option given is)
    ] refl is

-- options of the rows give as many values at least
many : (rows : List Row) (given : List Given) → AllByRecursion (λ option. IsSome (row_named option.name rows)) given → length given ≤ total rows given
many rows [] named = omega arith
many rows (option ∷ given) named = omega (arith, counts rows option given named.0, many rows given named.1)

-- where one is read, one is given at most
pub once : (default : Option Value) (values : List Value) (value : Value) → only default values ≡ Some value → length values ≤ 1
once default [] value e = omega arith
once default (first ∷ []) value e = omega arith
once default (first ∷ second ∷ values) value e = absurd (cc)

few : (rows : List Row) (given : List Given) (values : List Value) → option_values rows given ≡ Some values → total rows given ≤ length rows
unfolding total option_values
few [] given values e = omega arith
few (row ∷ rows) given values e =
    let value = behind_it _ (option_value row given) values e in
    let more = mapped _ (option_values rows given) values value.2 in
    omega (arith, once row.default (values_named row.name given) value.0 value.1, few rows given more.0 more.1)

-- more options than there are say nothing, since one of them is given twice
pub too_many : (rows : List Row) (words : List (List ℕ)) (given : List Given) → given_by rows words ≡ Some given → length rows < length given
    → option_values rows given ≡ None
too_many rows words given e more =
    elim (option_values rows given) as (λ found. (option_values rows given ≡ found) → found ≡ None) [
      | None ↦ λ is. refl
      | Some values ↦ λ is. absurd (omega (arith, many rows given (are_named rows given words (given_is_spelled rows words given e)), few rows given values is))
    ] refl

length-options_given : (front : List CodeGiven) → length (options_given front) ≡ length front
length-options_given [] = refl
length-options_given (option ∷ front) = ap (λ n. suc n) (length-options_given front)

-- as a walk finds that they are too many
pub given_full : (rows : List Row) (words : List (List ℕ)) (front : List CodeGiven) (option : CodeGiven) (now more : Option (List Given))
    → length rows ≤ length front
    → now ≡ with_given option.name.now option.value more → given_by rows words ≡ behind (options_given front) now
    → option_and_then (option_values rows) (given_by rows words) ≡ None
given_full rows words front option now None room given so_far = rw (so_far, given) refl
given_full rows words front option now (Some more) room given so_far =
    let all : given_by rows words ≡ Some (options_given front ++ (record { name = option.name.now; value = option.value } ∷ more)) =
    so_far ∙ ap (behind (options_given front)) given in
    ap (option_and_then (option_values rows)) all
    ∙ too_many rows words _ all
    (omega (arith, length-append (options_given front) (record { name = option.name.now; value = option.value } ∷ more), length-options_given front))

pub length-rows_of : (options : List OptionSchema) → length (rows_of options) ≡ length options
length-rows_of [] = refl
length-rows_of (option ∷ options) = ap (λ n. suc n) (length-rows_of options)
