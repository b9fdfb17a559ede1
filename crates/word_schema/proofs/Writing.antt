-- The words that are written of values are read as these values.
use Rattle.std.proofs.Common.{Bool, ◌≡◌, ◌≢◌, ℕ, suc, zero, ◌-◌, ◌^◌, ◌<◌, ◌≤◌, ◌==◌, leb, nat_lt, nat_le, not, ◌&&◌, List, [], ◌∷◌, ◌++◌, true}
use Rattle.std.proofs.Common.{false, cond, length, get_or, map, take, drop, Option, Some, None, option_map, refl, ap, sym, ◌∙◌, arith}
use Rattle.std.proofs.lemmas.Bool.{and_parts, leb-true, not-true}
use Rattle.std.proofs.lemmas.Bool.Decides.{nat_tests}
use Rattle.std.proofs.lemmas.List.{take-append-drop}
use Rattle.std.specs.List.{AllByRecursion, list_all, list_any}
use Rattle.std.specs.Prelude.{◌||◌}
use Rattle.std.specs.Str.{bytes_eq}
use Rattle.word_schema.specs.declared.value.Value.{Value}
use Rattle.word_schema.specs.declared.value.Value.TheVariants as values
use Rattle.word_schema.specs.Fits.{fits_form, fits_flag, fits_kind, fits_row, fit_rows, fit_behind, fits, are_distinct, is_sound_form}
use Rattle.word_schema.specs.Fits.{is_flag_default, is_default_of, is_sound_kind, is_sound_row, is_sound}
use Rattle.word_schema.specs.Forms.{Form, Kind, Row, Schema}
use Rattle.word_schema.specs.Forms as forms
use Rattle.word_schema.specs.Given.{Given, value_of, row_named, values_named, only, option_value, option_values, operand_values, with_value}
use Rattle.word_schema.specs.Given.{are_compatible, have_what_they_need, values_of}
use Rattle.word_schema.specs.Spelled.{StandsInFront, AreSpelled}
use Rattle.word_schema.specs.Written.{word_of, same_value, is_default, given_for, words_by, option_words, operand_words, written}
use Rattle.word_schema.proofs.Digits.{read_byte, read_number, place_from}
use Rattle.word_schema.proofs.Found.{same_text, bytes_eq-sym}
use Rattle.word_schema.proofs.Fitting.{finds_all}
use Rattle.word_schema.proofs.Spelling.{spelled_is_given}
use Rattle.word_schema.proofs.Walking.{values_named-first}

-- the word of a value says it

below : (n many : ℕ) → nat_lt n many ≡ true → n < many
below n many e = grind (arith, nat_tests)

within : (least most n : ℕ) → (nat_le least n && nat_le n most) ≡ true → (least ≤ n) × (n ≤ most)
within least most n e =
    let parts = and_parts (leb least n) (leb n most) e in
    (leb-true _ _ parts.0, leb-true _ _ parts.1)

-- words that differ from one differ from each
differ : (word : List ℕ) (words : List (List ℕ)) (k : ℕ) → list_any (bytes_eq word) words ≡ false → k < length words → get_or words k [] ≢ word
differ word [] k none inside is = absurd (omega arith)
differ word (other ∷ words) zero none inside is = absurd (cc (none, ap (λ b. b || list_any (bytes_eq word) words) (ap (bytes_eq word) is ∙ same_text word)))
differ word (other ∷ words) (suc k) none inside is =
    elim (bytes_eq word other) as (λ same. (same || list_any (bytes_eq word) words) ≡ false → ⊥)
    [ true ↦ λ none. absurd (cc) | false ↦ λ none. differ word words k none (omega arith) is ] none

-- the words before a place differ from the word there
earlier : (words : List (List ℕ)) (place : ℕ) → are_distinct words ≡ true → place < length words → (k : ℕ) → k < place
    → get_or words k [] ≢ get_or words place []
earlier [] place distinct inside k before is = absurd (omega arith)
earlier (word ∷ words) zero distinct inside k before is = absurd (omega arith)
earlier (word ∷ words) (suc place) distinct inside zero before is =
    let parts = and_parts (not (list_any (bytes_eq word) words)) (are_distinct words) distinct in
    differ word words place (not-true _ parts.0) (omega arith) (sym is)
earlier (word ∷ words) (suc place) distinct inside (suc k) before is =
    let parts = and_parts (not (list_any (bytes_eq word) words)) (are_distinct words) distinct in
    earlier words place parts.1 (omega arith) k (omega arith) is

word_says : (form : Form) (value : Value) → is_sound_form form ≡ true → fits_form form value ≡ true → value_of form (word_of form value) ≡ Some value
word_says forms.Byte (values.Number n) sound fit = ap (option_map (λ (byte : ℕ). values.Number byte)) (read_byte n (below n 256 fit))
word_says forms.Byte (values.Flag flag) sound fit = absurd (cc)
word_says forms.Byte (values.Word n) sound fit = absurd (cc)
word_says (forms.Number least most) (values.Number n) sound fit =
    let bounds = within least most n fit in
    let small : most ≤ 2 ^ 64 - 1 = leb-true _ _ sound in
    ap (option_map (λ (number : ℕ). values.Number number)) (read_number least most n (omega arith) bounds.0 bounds.1)
word_says (forms.Number least most) (values.Flag flag) sound fit = absurd (cc)
word_says (forms.Number least most) (values.Word n) sound fit = absurd (cc)
word_says (forms.Word words) (values.Word n) sound fit =
    ap (option_map (λ (place : ℕ). values.Word place))
    (place_from (get_or words n []) words n (below n (length words) fit) refl (earlier words n sound (below n (length words) fit)))
word_says (forms.Word words) (values.Flag flag) sound fit = absurd (cc)
word_says (forms.Word words) (values.Number n) sound fit = absurd (cc)

-- the words of options

-- a flag that isn't its default is given
flag_is_given : (default : Option Value) (value : Value) → is_flag_default default ≡ true → fits_flag default value ≡ true → is_default default value ≡ false
    → value ≡ values.Flag true
flag_is_given None (values.Flag true) sound fit other = refl
flag_is_given None (values.Flag false) sound fit other = absurd (cc)
flag_is_given None (values.Number n) sound fit other = absurd (cc)
flag_is_given None (values.Word n) sound fit other = absurd (cc)
flag_is_given (Some (values.Flag true)) value sound fit other = absurd (cc)
flag_is_given (Some (values.Flag false)) (values.Flag true) sound fit other = refl
flag_is_given (Some (values.Flag false)) (values.Flag false) sound fit other = absurd (cc)
flag_is_given (Some (values.Flag false)) (values.Number n) sound fit other = absurd (cc)
flag_is_given (Some (values.Flag false)) (values.Word n) sound fit other = absurd (cc)
flag_is_given (Some (values.Number n)) value sound fit other = absurd (cc)
flag_is_given (Some (values.Word n)) value sound fit other = absurd (cc)

stands : (row : Row) (value : Value) (rest : List (List ℕ)) (kind : Kind) → is_sound_kind row.default kind ≡ true → fits_kind row.default kind value ≡ true
    → is_default row.default value ≡ false → StandsInFront kind (record { name = row.name; value = value }) (words_by row value kind ++ rest) rest
stands row value rest forms.Flag sound fit other = (flag_is_given row.default value sound fit other, refl)
stands row value rest (forms.Valued form) sound fit other =
    (word_of form value, word_says form value (and_parts (is_sound_form form) (is_default_of form row.default) sound).0 fit, refl)

are_spelled : (all rows : List Row) (values : List Value) → AllByRecursion (λ row. row_named row.name all ≡ Some row) rows → list_all is_sound_row rows ≡ true
    → fit_rows rows values ≡ true → AreSpelled all (option_words rows values) (given_for rows values)
are_spelled all [] values finds sound fit = refl
are_spelled all (row ∷ rows) [] finds sound fit = absurd (cc)
are_spelled all (row ∷ rows) (value ∷ values) finds sound fit =
    let parts = and_parts (is_sound_row row) (list_all is_sound_row rows) sound in
    let fitting = and_parts (fits_row row value) (fit_rows rows values) fit in
    let later = are_spelled all rows values finds.1 parts.1 fitting.1 in
    let rest = option_words rows values in
    elim (is_default row.default value)
    as (λ is. (is_default row.default value ≡ is) → AreSpelled all (cond is rest (words_by row value row.kind ++ rest))
    (cond is (given_for rows values) (record { name = row.name; value = value } ∷ given_for rows values))) [
      | true ↦ λ is. later
      | false ↦ λ is. (row, rest, finds.0, stands row value rest row.kind parts.0 fitting.0 is, later)
    ] refl

-- what these options say

names : List Row → List (List ℕ)
names rows = map (λ row. row.name) rows

-- the options for rows have their names
none_named : (name : List ℕ) (rows : List Row) (values : List Value) → list_any (bytes_eq name) (names rows) ≡ false
    → values_named name (given_for rows values) ≡ []
unfolding names
none_named name [] values none = refl
none_named name (row ∷ rows) [] none = refl
none_named name (row ∷ rows) (value ∷ values) none =
    let option : Given = record { name = row.name; value = value } in
    elim (bytes_eq name row.name)
    as (λ same. (bytes_eq name row.name ≡ same) → (same || list_any (bytes_eq name) (names rows)) ≡ false
    → values_named name (given_for (row ∷ rows) (value ∷ values)) ≡ []) [
      | true ↦ λ same none. absurd (cc)
      | false ↦ λ same none.
          let later = none_named name rows values none in
          elim (is_default row.default value)
          as (λ is. values_named name (cond is (given_for rows values) (option ∷ given_for rows values)) ≡ [])
          [ true ↦ later | false ↦ values_named-first name option (given_for rows values) ∙ rw (bytes_eq-sym row.name name, same) later ]
    ] refl none

-- an option of another name changes nothing
ignored : (option : Given) (rows : List Row) (given : List Given) → list_any (bytes_eq option.name) (names rows) ≡ false
    → option_values rows (option ∷ given) ≡ option_values rows given
unfolding names option_values
ignored option [] given none = refl
ignored option (row ∷ rows) given none =
    elim (bytes_eq option.name row.name)
    as (λ same. (bytes_eq option.name row.name ≡ same) → (same || list_any (bytes_eq option.name) (names rows)) ≡ false
    → option_values (row ∷ rows) (option ∷ given) ≡ option_values (row ∷ rows) given) [
      | true ↦ λ same none. absurd (cc)
      | false ↦ λ same none.
          let here : values_named row.name (option ∷ given) ≡ values_named row.name given = values_named-first row.name option given ∙ rw same refl in
          ap (λ (values : List Value). with_value (only row.default values) (option_values rows (option ∷ given))) here
          ∙ ap (λ (more : Option (List Value)). with_value (option_value row given) more) (ignored option rows given none)
    ] refl none

same_flag : (a b : Bool) → cond a b (not b) ≡ true → a ≡ b
same_flag true true e = refl
same_flag true false e = absurd (cc)
same_flag false true e = absurd (cc)
same_flag false false e = refl

same_number : (a b : ℕ) → (a == b) ≡ true → a ≡ b
same_number a b e = grind (arith, nat_tests)

same_values : (a b : Value) → same_value a b ≡ true → a ≡ b
same_values (values.Flag a) (values.Flag b) e = ap (λ (flag : Bool). values.Flag flag) (same_flag a b e)
same_values (values.Flag a) (values.Number b) e = absurd (cc)
same_values (values.Flag a) (values.Word b) e = absurd (cc)
same_values (values.Number a) (values.Flag b) e = absurd (cc)
same_values (values.Number a) (values.Number b) e = ap (λ (n : ℕ). values.Number n) (same_number a b e)
same_values (values.Number a) (values.Word b) e = absurd (cc)
same_values (values.Word a) (values.Flag b) e = absurd (cc)
same_values (values.Word a) (values.Number b) e = absurd (cc)
same_values (values.Word a) (values.Word b) e = ap (λ (n : ℕ). values.Word n) (same_number a b e)

default_is : (default : Option Value) (value : Value) → is_default default value ≡ true → default ≡ Some value
default_is None value e = absurd (cc)
default_is (Some default) value e = ap (λ (v : Value). Some v) (same_values default value e)

say_values : (rows : List Row) (values : List Value) → are_distinct (names rows) ≡ true → fit_rows rows values ≡ true
    → option_values rows (given_for rows values) ≡ Some values
unfolding names option_values
say_values [] [] distinct fit = refl
say_values [] (value ∷ values) distinct fit = absurd (cc)
say_values (row ∷ rows) [] distinct fit = absurd (cc)
say_values (row ∷ rows) (value ∷ values) distinct fit =
    let parts = and_parts (not (list_any (bytes_eq row.name) (names rows))) (are_distinct (names rows)) distinct in
    let other : list_any (bytes_eq row.name) (names rows) ≡ false = not-true _ parts.0 in
    let fitting = and_parts (fits_row row value) (fit_rows rows values) fit in
    let later = say_values rows values parts.1 fitting.1 in
    let none = none_named row.name rows values other in
    let option : Given = record { name = row.name; value = value } in
    elim (is_default row.default value)
    as (λ is. (is_default row.default value ≡ is)
    → option_values (row ∷ rows) (cond is (given_for rows values) (option ∷ given_for rows values)) ≡ Some (value ∷ values)) [
      | true ↦ λ is.
          ap (λ (named : List Value). with_value (only row.default named) (option_values rows (given_for rows values))) none
          ∙ (ap (λ (said : Option Value). with_value said (option_values rows (given_for rows values))) (default_is row.default value is)
          ∙ ap (λ (more : Option (List Value)). with_value (Some value) more) later)
      | false ↦ λ is.
          let here : values_named row.name (option ∷ given_for rows values) ≡ value ∷ [] =
          values_named-first row.name option (given_for rows values) ∙ rw (same_text row.name, none) refl in
          ap (λ (named : List Value). with_value (only row.default named) (option_values rows (option ∷ given_for rows values))) here
          ∙ ap (λ (more : Option (List Value)). with_value (Some value) more) (ignored option rows (given_for rows values) other ∙ later)
    ] refl

-- the words of operands

record OperandsRead (operands : List Form) (rows : List Row) (values : List Value) (behind : List (List ℕ)) : Type 0 where
  say : operand_values operands (take (length operands) (operand_words operands values ++ behind)) ≡ Some (take (length operands) values)
  leave : drop (length operands) (operand_words operands values ++ behind) ≡ behind
  fit : fit_rows rows (drop (length operands) values) ≡ true

operands_read : (operands : List Form) (rows : List Row) (values : List Value) (behind : List (List ℕ)) → list_all is_sound_form operands ≡ true
    → fit_behind operands rows values ≡ true → OperandsRead operands rows values behind
unfolding operand_values
operands_read [] rows values behind sound fit = record { say = refl; leave = refl; fit = fit }
operands_read (form ∷ operands) rows [] behind sound fit = absurd (cc)
operands_read (form ∷ operands) rows (value ∷ values) behind sound fit =
    let parts = and_parts (is_sound_form form) (list_all is_sound_form operands) sound in
    let fitting = and_parts (fits_form form value) (fit_behind operands rows values) fit in
    let later = operands_read operands rows values behind parts.1 fitting.1 in
    record { say = rw (word_says form value parts.0 fitting.0, later.say) refl; leave = later.leave; fit = later.fit }

pub written_is_read : (schema : Schema) (values : List Value) → is_sound schema ≡ true → fits schema values ≡ true
    → are_compatible schema.exclusive (given_for schema.options (drop (length schema.operands) values)) ≡ true
    → have_what_they_need schema.needs (given_for schema.options (drop (length schema.operands) values)) ≡ true
    → values_of schema (written schema values) ≡ Some values
unfolding names
written_is_read schema values sound fit apart together =
    let outer = and_parts (are_distinct (names schema.options) && list_all is_sound_row schema.options) (list_all is_sound_form schema.operands) sound in
    let inner = and_parts (are_distinct (names schema.options)) (list_all is_sound_row schema.options) outer.0 in
    let behind = drop (length schema.operands) values in
    let front = operands_read schema.operands schema.options values (option_words schema.options behind) outer.1 fit in
    let given = spelled_is_given schema.options (given_for schema.options behind) (option_words schema.options behind)
    (are_spelled schema.options schema.options behind (finds_all schema.options inner.0) inner.1 front.fit) in
    let said = say_values schema.options behind inner.0 front.fit in
    rw (front.say, front.leave, given, apart, together, said) (ap (λ (values : List Value). Some values) (take-append-drop (length schema.operands) values))
