-- The options that words are, and their words.
use Rattle.std.proofs.Common.{◌≡◌, ℕ, List, [], ◌∷◌, true, false, cond, Option, Some, IsSome, refl, ap, sym, ◌∙◌, subst}
use Rattle.std.specs.List.{AllByRecursion}
use Rattle.std.specs.Option.{option_and_then}
use Rattle.std.specs.Str.{bytes_eq}
use Rattle.word_schema.specs.declared.value.Value.TheVariants as values
use Rattle.word_schema.specs.Forms.{Form, Kind, Row}
use Rattle.word_schema.specs.Forms as forms
use Rattle.word_schema.specs.Given.{Given, ValueOf, value_of, row_named, with_given, by_kind, given_from, given_by}
use Rattle.word_schema.specs.Spelled.{StandsInFront, AreSpelled}
use Rattle.word_schema.proofs.Found.{mapped, behind_it, same_from}
use Rattle.word_schema.proofs.Walking.{flag_in_front, some_value_in_front}

-- an option that a name finds has it
pub has_name : (name : List ℕ) (rows : List Row) (row : Row) → row_named name rows ≡ Some row → row.name ≡ name
has_name name [] row e = absurd (cc)
has_name name (first ∷ rows) row e =
    elim (bytes_eq first.name name)
    as (λ is. (bytes_eq first.name name ≡ is) → cond is (Some first) (row_named name rows) ≡ Some row → row.name ≡ name) [
      | true ↦ λ is e. let same : first ≡ row = cc in ap (λ (r : Row). r.name) (sym same) ∙ same_from first.name name is
      | false ↦ λ is e. has_name name rows row e
    ] refl e

finds_itself : (name : List ℕ) (rows : List Row) (row : Row) → row_named name rows ≡ Some row → row_named row.name rows ≡ Some row
finds_itself name rows row e = ap (λ n. row_named n rows) (has_name name rows row e) ∙ e

-- a flag in front of options
flag_front : (rows : List Row) (row : Row) (word : List ℕ) (words : List (List ℕ)) (given : List Given) → row_named word rows ≡ Some row → row.kind ≡ forms.Flag
    → with_given row.name (values.Flag true) (given_by rows words) ≡ Some given
    → ((more : List Given) → given_by rows words ≡ Some more → AreSpelled rows words more) → AreSpelled rows (word ∷ words) given
flag_front rows row word words given is kind e later =
    let more = mapped _ (given_by rows words) given e in
    subst (AreSpelled rows (word ∷ words)) more.2 (
      row,
      words,
      finds_itself word rows row is,
      subst (λ k. StandsInFront k (record { name = row.name; value = values.Flag true }) (word ∷ words) words) (sym kind)
          (refl, ap (λ n. n ∷ words) (sym (has_name word rows row is))),
      later more.0 more.1,
    )

-- an option with a value in front of options
valued_front : (rows : List Row) (row : Row) (form : Form) (word said : List ℕ) (words : List (List ℕ)) (given : List Given) → row_named word rows ≡ Some row
    → row.kind ≡ forms.Valued form → option_and_then (λ value. with_given row.name value (given_by rows words)) (value_of form said) ≡ Some given
    → ((more : List Given) → given_by rows words ≡ Some more → AreSpelled rows words more) → AreSpelled rows (word ∷ said ∷ words) given
valued_front rows row form word said words given is kind e later =
    let value = behind_it _ (value_of form said) given e in
    let more = mapped _ (given_by rows words) given value.2 in
    subst (AreSpelled rows (word ∷ said ∷ words)) more.2 (
      row,
      words,
      finds_itself word rows row is,
      subst (λ k. StandsInFront k (record { name = row.name; value = value.0 }) (word ∷ said ∷ words) words) (sym kind)
          (said, value.1, ap (λ n. n ∷ said ∷ words) (sym (has_name word rows row is))),
      later more.0 more.1,
    )

pub given_is_spelled : (rows : List Row) (words : List (List ℕ)) (given : List Given) → given_by rows words ≡ Some given → AreSpelled rows words given
unfolding given_from
given_is_spelled rows [] [] e = refl
given_is_spelled rows [] (option ∷ given) e = absurd (cc)
given_is_spelled rows (word ∷ []) given e =
    let row = behind_it _ (row_named word rows) given e in
    elim row.0.kind
    as (λ kind. (row.0.kind ≡ kind) → by_kind row.0 (given_by rows []) (λ form. given_from rows (ValueOf row.0.name form) []) kind ≡ Some given
    → AreSpelled rows (word ∷ []) given) [
      | forms.Flag ↦ λ kind e. flag_front rows row.0 word [] given row.1 kind e (given_is_spelled rows [])
      | forms.Valued form ↦ λ kind e. absurd (cc)
    ] refl row.2
given_is_spelled rows (word ∷ said ∷ words) given e =
    let row = behind_it _ (row_named word rows) given e in
    elim row.0.kind
    as (λ kind. (row.0.kind ≡ kind)
    → by_kind row.0 (given_by rows (said ∷ words)) (λ form. given_from rows (ValueOf row.0.name form) (said ∷ words)) kind ≡ Some given
    → AreSpelled rows (word ∷ said ∷ words) given) [
      | forms.Flag ↦ λ kind e. flag_front rows row.0 word (said ∷ words) given row.1 kind e (given_is_spelled rows (said ∷ words))
      | forms.Valued form ↦ λ kind e. valued_front rows row.0 form word said words given row.1 kind e (given_is_spelled rows words)
    ] refl row.2

-- the option in front, and the others
in_front : (rows : List Row) (row : Row) (option : Given) (words rest : List (List ℕ)) (kind : Kind) → row_named option.name rows ≡ Some row → row.kind ≡ kind
    → StandsInFront kind option words rest → given_by rows words ≡ with_given option.name option.value (given_by rows rest)
in_front rows row option words rest forms.Flag is kind stands =
    ap (given_by rows) stands.1 ∙ (flag_in_front rows row option.name rest (sym is) kind
    ∙ (ap (λ n. with_given n (values.Flag true) (given_by rows rest)) (has_name option.name rows row is)
    ∙ ap (λ value. with_given option.name value (given_by rows rest)) (sym stands.0)))
in_front rows row option words rest (forms.Valued form) is kind stands =
    ap (given_by rows) stands.2 ∙ (some_value_in_front rows row form option.name stands.0 stands.0 (stands.0 ∷ rest) rest option.value (sym is) kind
    refl refl (sym stands.1)
    ∙ ap (λ n. with_given n option.value (given_by rows rest)) (has_name option.name rows row is))

pub spelled_is_given : (rows : List Row) (given : List Given) (words : List (List ℕ)) → AreSpelled rows words given → given_by rows words ≡ Some given
unfolding given_from
spelled_is_given rows [] words spelled = ap (given_by rows) spelled
spelled_is_given rows (option ∷ given) words spelled =
    let later = spelled_is_given rows given spelled.1 spelled.4 in
    in_front rows spelled.0 option words spelled.1 spelled.0.kind spelled.2 refl spelled.3
    ∙ ap (λ more. with_given option.name option.value more) later

-- each option that is given is one of the rows
pub are_named : (rows : List Row) (given : List Given) (words : List (List ℕ)) → AreSpelled rows words given
    → AllByRecursion (λ option. IsSome (row_named option.name rows)) given
are_named rows [] words spelled = tt
are_named rows (option ∷ given) words spelled =
    (subst (λ (found : Option Row). IsSome found) (sym spelled.2) refl, are_named rows given spelled.1 spelled.4)
