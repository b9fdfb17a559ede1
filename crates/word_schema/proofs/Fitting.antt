-- Values that are read fit their rows.
use Rattle.std.proofs.Common.{◌≡◌, ℕ, ◌<◌, leb, nat_lt, nat_le, not, ◌&&◌, List, [], ◌∷◌, ◌++◌, true, false, length, map, drop, Option, Some}
use Rattle.std.proofs.Common.{None, refl, ap, sym, ◌∙◌, subst, arith}
use Rattle.std.proofs.lemmas.Bool.{and_parts, not-true}
use Rattle.std.proofs.lemmas.Bool.Decides.{nat_tests}
use Rattle.std.specs.List.{AllByRecursion, list_all, list_any}
use Rattle.std.specs.Prelude.{◌||◌}
use Rattle.std.specs.Str.{bytes_eq}
use Rattle.std.specs.Str.Parse.{digits_value}
use Rattle.word_schema.specs.declared.value.Value.{Value}
use Rattle.word_schema.specs.declared.value.Value.TheVariants as values
use Rattle.word_schema.specs.Fits.{fits_form, fits_flag, fits_kind, fits_row, fit_rows, fit_behind, fits, are_distinct, is_sound_form, is_sound_kind}
use Rattle.word_schema.specs.Fits.{is_sound_row, is_sound}
use Rattle.word_schema.specs.Forms.{Form, Kind, Row, Schema}
use Rattle.word_schema.specs.Forms as forms
use Rattle.word_schema.specs.Given.{Given, value_of, place_of, row_named, values_named, only, option_value, option_values, operand_values}
use Rattle.word_schema.specs.Given.{are_compatible, have_what_they_need, options_say, given_by, values_of}
use Rattle.word_schema.specs.Numbers.{byte_of, is_decimal, number_within}
use Rattle.word_schema.specs.Spelled.{StandsInFront, AreSpelled}
use Rattle.word_schema.proofs.Digits.{written_byte, first_place}
use Rattle.word_schema.proofs.Found.{mapped, behind_it, tested, same_from, same_text}
use Rattle.word_schema.proofs.Orders.{values_have}
use Rattle.word_schema.proofs.Spelling.{given_is_spelled}

-- a value that a word says is of its form

byte_fits : (n : ℕ) → n < 256 → nat_lt n 256 ≡ true
byte_fits n small = grind (arith, nat_tests)

place_fits : (n many : ℕ) → n < many → nat_lt n many ≡ true
place_fits n many within = grind (arith, nat_tests)

number_fits : (least most n : ℕ) (word : List ℕ) → number_within least most word ≡ Some n → (nat_le least n && nat_le n most) ≡ true
number_fits least most n word e =
    let found = tested _ (Some (digits_value 10 word)) n e in
    let outer = and_parts _ (leb (digits_value 10 word) most) found.0 in
    let inner = and_parts (is_decimal word) (leb least (digits_value 10 word)) outer.0 in
    let same : digits_value 10 word ≡ n = cc (found.1) in
    subst (λ (number : ℕ). (nat_le least number && nat_le number most) ≡ true) same (rw (inner.1, outer.1) refl)

pub value_fits : (form : Form) (word : List ℕ) (value : Value) → value_of form word ≡ Some value → fits_form form value ≡ true
value_fits forms.Byte word value e =
    let found = mapped _ (byte_of word) value e in
    ap (fits_form forms.Byte) (sym found.2) ∙ byte_fits found.0 (written_byte word found.0 found.1).0
value_fits (forms.Number least most) word value e =
    let found = mapped _ (number_within least most word) value e in
    ap (fits_form (forms.Number least most)) (sym found.2) ∙ number_fits least most found.0 word found.1
value_fits (forms.Word words) word value e =
    let found = mapped _ (place_of word words) value e in
    ap (fits_form (forms.Word words)) (sym found.2) ∙ place_fits found.0 (length words) (first_place word words found.0 found.1).0

-- rows of different names are found by them

FindsAll : List Row → List Row → Type 0
FindsAll all rows = AllByRecursion (λ row. row_named row.name all ≡ Some row) rows

finds_more : (first : Row) (all rows : List Row) → list_any (bytes_eq first.name) (map (λ row. row.name) rows) ≡ false → FindsAll all rows
    → FindsAll (first ∷ all) rows
unfolding FindsAll
finds_more first all [] other finds = tt
finds_more first all (row ∷ rows) other finds =
    elim (bytes_eq first.name row.name)
    as (λ is. (bytes_eq first.name row.name ≡ is) → (is || list_any (bytes_eq first.name) (map (λ row. row.name) rows)) ≡ false
    → FindsAll (first ∷ all) (row ∷ rows)) [
      | true ↦ λ is other. absurd (cc)
      | false ↦ λ is other. (rw is finds.0, finds_more first all rows other finds.1)
    ] refl other

pub finds_all : (rows : List Row) → are_distinct (map (λ row. row.name) rows) ≡ true → AllByRecursion (λ row. row_named row.name rows ≡ Some row) rows
unfolding FindsAll
finds_all [] e = tt
finds_all (row ∷ rows) e =
    let parts = and_parts (not (list_any (bytes_eq row.name) (map (λ row. row.name) rows))) (are_distinct (map (λ row. row.name) rows)) e in
    (rw (same_text row.name) refl, finds_more row rows rows (not-true _ parts.0) (finds_all rows parts.1))

-- options that are given are of their kinds

FitsGiven : Kind → Value → Type 0
FitsGiven forms.Flag value = value ≡ values.Flag true
FitsGiven (forms.Valued form) value = fits_form form value ≡ true

AllFit : List Row → List Given → Type 0
AllFit all given = AllByRecursion (λ option. (row : Row) × (row_named option.name all ≡ Some row) × FitsGiven row.kind option.value) given

stands_fit : (kind : Kind) (option : Given) (words rest : List (List ℕ)) → StandsInFront kind option words rest → FitsGiven kind option.value
unfolding FitsGiven
stands_fit forms.Flag option words rest stands = stands.0
stands_fit (forms.Valued form) option words rest stands = value_fits form stands.0 option.value stands.1

all_fit : (all : List Row) (given : List Given) (words : List (List ℕ)) → AreSpelled all words given → AllFit all given
unfolding AllFit
all_fit all [] words spelled = tt
all_fit all (option ∷ given) words spelled =
    ((spelled.0, spelled.2, stands_fit spelled.0.kind option words spelled.1 spelled.3), all_fit all given spelled.1 spelled.4)

-- those of a row's name are of its kind
of_name : (all : List Row) (row : Row) (given : List Given) → row_named row.name all ≡ Some row → AllFit all given
    → AllByRecursion (λ option. bytes_eq option.name row.name ≡ true → FitsGiven row.kind option.value) given
unfolding AllFit
of_name all row [] found each = tt
of_name all row (option ∷ given) found each = (
  λ same.
      let e : each.0.0 ≡ row = cc (each.0.1, found, ap (λ (n : List ℕ). row_named n all) (same_from option.name row.name same)) in
      subst (λ (r : Row). FitsGiven r.kind option.value) e each.0.2,
  of_name all row given found each.1,
)

-- the value of a row fits it

default_fits : (kind : Kind) (value : Value) → is_sound_kind (Some value) kind ≡ true → fits_kind (Some value) kind value ≡ true
default_fits forms.Flag (values.Flag flag) sound = refl
default_fits forms.Flag (values.Number n) sound = absurd (cc)
default_fits forms.Flag (values.Word n) sound = absurd (cc)
default_fits (forms.Valued form) value sound = (and_parts (is_sound_form form) (fits_form form value) sound).1

flag_fits : (default : Option Value) → fits_flag default (values.Flag true) ≡ true
flag_fits None = refl
flag_fits (Some default) = refl

given_fits : (default : Option Value) (kind : Kind) (value : Value) → FitsGiven kind value → fits_kind default kind value ≡ true
unfolding FitsGiven
given_fits default forms.Flag value is = ap (fits_flag default) is ∙ flag_fits default
given_fits default (forms.Valued form) value is = is

only_fits : (default : Option Value) (kind : Kind) (values : List Value) (value : Value) → is_sound_kind default kind ≡ true
    → AllByRecursion (FitsGiven kind) values → only default values ≡ Some value → fits_kind default kind value ≡ true
only_fits default kind [] value sound each e =
    subst (λ (d : Option Value). fits_kind d kind value ≡ true) (sym e)
    (default_fits kind value (ap (λ (d : Option Value). is_sound_kind d kind) (sym e) ∙ sound))
only_fits default kind (first ∷ []) value sound each e =
    let same : first ≡ value = cc in
    subst (λ (v : Value). fits_kind default kind v ≡ true) same (given_fits default kind first each.0)
only_fits default kind (first ∷ second ∷ values) value sound each e = absurd (cc)

rows_fit : (all rows : List Row) (given : List Given) (values : List Value) → FindsAll all rows → list_all is_sound_row rows ≡ true → AllFit all given
    → option_values rows given ≡ Some values → fit_rows rows values ≡ true
unfolding FindsAll option_values
rows_fit all [] given values finds sound each e =
    let none : [] ≡ values = cc in
    ap (fit_rows []) (sym none)
rows_fit all (row ∷ rows) given values finds sound each e =
    let value = behind_it _ (option_value row given) values e in
    let more = mapped _ (option_values rows given) values value.2 in
    let parts = and_parts (is_sound_row row) (list_all is_sound_row rows) sound in
    let here : fits_row row value.0 ≡ true =
    only_fits row.default row.kind (values_named row.name given) value.0 parts.0
    (values_have row.name (FitsGiven row.kind) given (of_name all row given finds.0 each)) value.1 in
    let later : fit_rows rows more.0 ≡ true = rows_fit all rows given more.0 finds.1 parts.1 each more.1 in
    ap (fit_rows (row ∷ rows)) (sym more.2) ∙ rw (here, later) refl

operands_fit : (operands : List Form) (rows : List Row) (words : List (List ℕ)) (front behind : List Value) → operand_values operands words ≡ Some front
    → fit_rows rows behind ≡ true → fit_behind operands rows (front ++ behind) ≡ true
unfolding operand_values
operands_fit [] rows [] front behind e fit =
    let none : [] ≡ front = cc in
    ap (λ (values : List Value). fit_rows rows (values ++ behind)) (sym none) ∙ fit
operands_fit [] rows (word ∷ words) front behind e fit = absurd (cc)
operands_fit (form ∷ operands) rows [] front behind e fit = absurd (cc)
operands_fit (form ∷ operands) rows (word ∷ words) front behind e fit =
    let value = behind_it _ (value_of form word) front e in
    let more = mapped _ (operand_values operands words) front value.2 in
    let here = value_fits form word value.0 value.1 in
    let later = operands_fit operands rows words more.0 behind more.1 fit in
    ap (λ (values : List Value). fit_behind (form ∷ operands) rows (values ++ behind)) (sym more.2) ∙ rw (here, later) refl

pub values_fit : (schema : Schema) (words : List (List ℕ)) (values : List Value) → is_sound schema ≡ true → values_of schema words ≡ Some values
    → fits schema values ≡ true
unfolding FindsAll
values_fit schema words values sound e =
    let front = behind_it _ (operand_values schema.operands _) values e in
    let back = mapped _ _ values front.2 in
    let given = behind_it (options_say schema) (given_by schema.options (drop (length schema.operands) words)) back.0 back.1 in
    let said =
    tested (are_compatible schema.exclusive given.0 && have_what_they_need schema.needs given.0) (option_values schema.options given.0) back.0 given.2 in
    let outer = and_parts (are_distinct (map (λ (row : Row). row.name) schema.options) && list_all is_sound_row schema.options)
    (list_all is_sound_form schema.operands) sound in
    let inner = and_parts (are_distinct (map (λ (row : Row). row.name) schema.options)) (list_all is_sound_row schema.options) outer.0 in
    let fit : fit_rows schema.options back.0 ≡ true =
    rows_fit schema.options schema.options given.0 back.0 (finds_all schema.options inner.0) inner.1
    (all_fit schema.options given.0 _ (given_is_spelled schema.options _ given.0 given.1)) said.1 in
    ap (fits schema) (sym back.2) ∙ operands_fit schema.operands schema.options _ front.0 back.0 front.1 fit
