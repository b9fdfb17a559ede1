-- Options as a walk finds them: the one in front, the values of a name, and values one after the other.
use Rattle.std.proofs.Common.{◌≡◌, ℕ, suc, List, [], ◌∷◌, true, false, cond, length, map, filter, Some, None, option_map, refl, ap, sym, ◌∙◌, arith}
use Rattle.std.specs.List.{position}
use Rattle.std.specs.Option.{option_and_then}
use Rattle.std.specs.Borrow.{Bor}
use Rattle.std.specs.Str.{bytes_eq}
use Rattle.std.proofs.lemmas.Bool.Decides.{nat_tests}
use Rattle.word_schema.specs.declared.value.Value.{Value}
use Rattle.word_schema.specs.declared.value.Value.TheVariants as values
use Rattle.word_schema.specs.Forms.{Form, Kind, Row, texts_of}
use Rattle.word_schema.specs.Forms as forms
use Rattle.word_schema.specs.Given.{Given, ValueOf, place_of, value_of, row_named, with_given, by_kind, given_from, given_by, values_named}

-- the first place of a word
pub position_is_place : (word : List ℕ) (words : List (Bor (List ℕ))) → position (λ other. bytes_eq word other.now) words ≡ place_of word (texts_of words)
position_is_place word [] = refl
position_is_place word (other ∷ words) =
    elim (bytes_eq word other.now)
    as (λ is. (bytes_eq word other.now ≡ is) → position (λ other. bytes_eq word other.now) (other ∷ words)
    ≡ cond is (Some 0) (option_map (λ place. suc place) (place_of word (texts_of words)))) [
      | true ↦ λ is. rw is (grind (arith, nat_tests))
      | false ↦ λ is. let later = position_is_place word words in rw (is, ← later) (grind (arith, nat_tests))
    ] refl

-- the option whose name stands in front

pub given_by-first : (rows : List Row) (name : List ℕ) (words : List (List ℕ)) → given_by rows (name ∷ words)
    ≡ option_and_then (λ row. by_kind row (given_by rows words) (λ form. given_from rows (ValueOf row.name form) words) row.kind) (row_named name rows)
unfolding given_from
given_by-first rows name words = refl

pub none_named : (rows : List Row) (name : List ℕ) (words : List (List ℕ)) → None ≡ row_named name rows → given_by rows (name ∷ words) ≡ None
none_named rows name words none = given_by-first rows name words ∙ rw (← none) refl

pub flag_in_front : (rows : List Row) (row : Row) (name : List ℕ) (words : List (List ℕ)) → Some row ≡ row_named name rows → row.kind ≡ forms.Flag
    → given_by rows (name ∷ words) ≡ with_given row.name (values.Flag true) (given_by rows words)
flag_in_front rows row name words is flag = given_by-first rows name words ∙ rw (← is, flag) refl

valued : (rows : List Row) (row : Row) (form : Form) (name : List ℕ) (words : List (List ℕ)) → Some row ≡ row_named name rows → row.kind ≡ forms.Valued form
    → given_by rows (name ∷ words) ≡ given_from rows (ValueOf row.name form) words
valued rows row form name words is kind = given_by-first rows name words ∙ rw (← is, kind) refl

pub value_missing : (rows : List Row) (row : Row) (form : Form) (name : List ℕ) (words : List (List ℕ)) → Some row ≡ row_named name rows
    → row.kind ≡ forms.Valued form → words ≡ [] → given_by rows (name ∷ words) ≡ None
unfolding given_from
value_missing rows row form name words is kind none = valued rows row form name words is kind ∙ ap (given_from rows (ValueOf row.name form)) none

value_in_front : (rows : List Row) (row : Row) (form : Form) (name word : List ℕ) (words rest : List (List ℕ)) → Some row ≡ row_named name rows
    → row.kind ≡ forms.Valued form → words ≡ word ∷ rest
    → given_by rows (name ∷ words) ≡ option_and_then (λ value. with_given row.name value (given_by rows rest)) (value_of form word)
unfolding given_from
value_in_front rows row form name word words rest is kind behind =
    valued rows row form name words is kind ∙ ap (given_from rows (ValueOf row.name form)) behind

pub no_value_in_front : (rows : List Row) (row : Row) (form : Form) (name word said : List ℕ) (words rest : List (List ℕ)) → Some row ≡ row_named name rows
    → row.kind ≡ forms.Valued form → words ≡ word ∷ rest → said ≡ word → None ≡ value_of form said → given_by rows (name ∷ words) ≡ None
no_value_in_front rows row form name word said words rest is kind behind same none =
    value_in_front rows row form name word words rest is kind behind ∙ rw (sym (none ∙ ap (value_of form) same)) refl

pub some_value_in_front : (rows : List Row) (row : Row) (form : Form) (name word said : List ℕ) (words rest : List (List ℕ)) (value : Value)
    → Some row ≡ row_named name rows → row.kind ≡ forms.Valued form → words ≡ word ∷ rest → said ≡ word → Some value ≡ value_of form said
    → given_by rows (name ∷ words) ≡ with_given row.name value (given_by rows rest)
some_value_in_front rows row form name word said words rest value is kind behind same some =
    value_in_front rows row form name word words rest is kind behind ∙ rw (sym (some ∙ ap (value_of form) same)) refl

-- the values of a name

pub values_named-first : (name : List ℕ) (option : Given) (given : List Given) → values_named name (option ∷ given)
    ≡ cond (bytes_eq option.name name) (option.value ∷ values_named name given) (values_named name given)
values_named-first name option given =
    elim (bytes_eq option.name name)
    as (λ is. map (λ (other : Given). other.value) (cond is (option ∷ filter (λ (other : Given). bytes_eq other.name name) given)
    (filter (λ (other : Given). bytes_eq other.name name) given))
    ≡ cond is (option.value ∷ values_named name given) (values_named name given))
    [ true ↦ refl | false ↦ refl ]

pub map_nothing : {A B : Type 0} (f : A → B) (xs : List A) → length xs ≡ 0 → map f xs ≡ []
map_nothing f [] none = refl
map_nothing f (x ∷ xs) none = absurd (omega arith)
