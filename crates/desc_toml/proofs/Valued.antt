-- The values of a part are those that the part is taken from again, they fit the keys, and their texts are UTF-8. What holds of a part holds
-- of one that may be left out, and of each in a list.
use Rattle.std.proofs.Common.{◌≡◌, ◌⊎◌, inl, inr, ℕ, ◌<◌, ◌≤◌, ◌^◌, true, List, [], ◌∷◌, ◌++◌, length, drop, Option, Some, None, nat_le}
use Rattle.std.proofs.Common.{refl, sym, ap, ◌∙◌, arith, append_assoc, append-nil}
use Rattle.std.specs.Prelude.{IfSome}
use Rattle.std.specs.Int.{w128, to_be_bytes}
use Rattle.std.specs.List.{list_all, flat_map, AllByRecursion}
use Rattle.std.specs.Str.{IsUtf8, IsAscii}
use Rattle.std.proofs.lemmas.Bool.{and_parts, leb-true, le-leb}
use Rattle.std.proofs.lemmas.Str.{IsUtf8-from_ascii}
use Rattle.std.proofs.lemmas.Str.Ascii.{IsAscii-nil, IsAscii-cons}
use Rattle.uuid.specs.Text.{lower, hyphenated_text}
use Rattle.uuid.proofs.OrderLemmas.{from_be_bytes-to_be_bytes_16}
use Rattle.uuid.proofs.RoundTrips.{parses_hyphenated}
use Rattle.vt_outside.specs.Name.{is_printable}
use Rattle.vt_outside.proofs.NumberBytes.{bytes_small}
use Rattle.desc_schema.specs.declared.value.Value.{Value}
use Rattle.desc_schema.specs.Form.{Form, Shape, Field}
use Rattle.desc_schema.specs.Form as forms
use Rattle.desc_schema.specs.Written.{IsTextValue, AreTexts}
use Rattle.desc_schema.specs.Fits.{FitsForm, IsOne, AreParts, IsCounted, FitsShape, FitsField, FitsFields}
use Rattle.machine_desc.specs.Rules.{is_text}
use Rattle.desc_toml.specs.Values.{part_of, each_of, list_of}
use Rattle.desc_toml.specs.Printed.{part_values, list_values, uuid_or_nothing}

-- a lawful text is UTF-8

printable_ascii : (bytes : List ℕ) → list_all is_printable bytes ≡ true → IsAscii bytes
printable_ascii [] all = IsAscii-nil
printable_ascii (byte ∷ bytes) all =
    let both = and_parts (is_printable byte) (list_all is_printable bytes) all in
    let below = leb-true byte 0x7E (and_parts (nat_le 0x20 byte) (nat_le byte 0x7E) both.0).1 in
    IsAscii-cons byte bytes (omega (arith, below)) (printable_ascii bytes both.1)

lawful_utf8 : (text : List ℕ) → is_text text ≡ true → IsUtf8 text
lawful_utf8 text is =
    IsUtf8-from_ascii text (printable_ascii text (and_parts (nat_le (length text) 64) (list_all is_printable text) is).1)

pub each_utf8 : (texts : List (List ℕ)) → list_all is_text texts ≡ true → AllByRecursion IsUtf8 texts
each_utf8 [] all = tt
each_utf8 (text ∷ texts) all =
    let both = and_parts (is_text text) (list_all is_text texts) all in
    (lawful_utf8 text both.0, each_utf8 texts both.1)

-- a number of 128 bits is that of its UUID's text

uuid_fits : (n : ℕ) → n < 2 ^ 128 → FitsForm forms.Uuid (Value.Uuid n)
uuid_fits n small =
    let bytes = to_be_bytes w128 n in (
      hyphenated_text lower bytes,
      bytes,
      sym (parses_hyphenated lower bytes (inl refl) refl (bytes_small 16 n)),
      ap (λ (number : ℕ). Value.Uuid number) (sym (from_be_bytes-to_be_bytes_16 n small)),
    )

-- A value is of its kind, or none where none may stand for the key. A number is within its limits, as a test: this is how a part tests it.
abbrev pub IsGood : Form → Option Value → Value → Type 0
IsGood form default Value.Nothing = default ≡ Some Value.Nothing
IsGood forms.Text default (Value.Text text) = IsUtf8 text
IsGood (forms.Number least most) default (Value.Number n) = (least ≤ n) × (nat_le n most ≡ true)
IsGood forms.Flag default (Value.Flag flag) = Unit {0}
IsGood forms.Uuid default (Value.Uuid n) = n < 2 ^ 128
IsGood (forms.Word words) default (Value.Word n) = n < length words
IsGood form default value = ⊥

abbrev pub IsGoodAt : Shape → Option Value → Value → Type 0
IsGoodAt (forms.One form) default value = IsGood form default value
IsGoodAt shape default value = ⊥

-- the values at keys that have one value each
abbrev pub AreGood : List Field → List Value → Type 0
AreGood [] [] = Unit {0}
AreGood (field ∷ fields) (value ∷ values) = IsGoodAt field.shape field.default value × AreGood fields values
AreGood fields values = ⊥

-- they fit the keys, whatever tables there are

abbrev HasDefault : Option Value → Value → Type 0
HasDefault default value = (other : Value) × (default ≡ Some other) × (value ∷ [] ≡ other ∷ [])

form_good : (form : Form) (default : Option Value) (value : Value) → IsGood form default value → HasDefault default value ⊎ FitsForm form value
form_good form default Value.Nothing good = inl (Value.Nothing, good, refl)
form_good forms.Text default (Value.Text text) good = inr (text, refl)
form_good (forms.Number least most) default (Value.Number n) good = inr (n, refl, good.0, leb-true n most good.1)
form_good forms.Flag default (Value.Flag flag) good = inr (flag, refl)
form_good forms.Uuid default (Value.Uuid n) good = inr (uuid_fits n good)
form_good (forms.Word words) default (Value.Word n) good = inr (n, refl, good)
form_good form default value good = absurd good

shape_good : (Inside : ℕ → List Value → Type 0) (shape : Shape) (default : Option Value) (value : Value) → IsGoodAt shape default value
    → HasDefault default value ⊎ FitsShape Inside shape (value ∷ [])
shape_good Inside (forms.One form) default value good =
    elim (form_good form default value good) as (λ _. HasDefault default value ⊎ IsOne form (value ∷ [])) [
      | inl left_out ↦ inl left_out
      | inr given ↦ inr (value, refl, given)
    ]
shape_good Inside shape default value good = absurd good

pub good_fits : (Inside : ℕ → List Value → Type 0) (fields : List Field) (values : List Value) → AreGood fields values → FitsFields Inside fields values
good_fits Inside [] [] good = refl
good_fits Inside [] (value ∷ values) good = absurd good
good_fits Inside (field ∷ fields) [] good = absurd good
good_fits Inside (field ∷ fields) (value ∷ values) good =
    (value ∷ [], values, refl, shape_good Inside field.shape field.default value good.0, good_fits Inside fields values good.1)

-- and their texts are UTF-8

form_text : (form : Form) (default : Option Value) (value : Value) → IsGood form default value → IsTextValue value
form_text forms.Text default (Value.Text text) good = good
form_text form default (Value.Text text) good = absurd good
form_text form default value good = tt

shape_text : (shape : Shape) (default : Option Value) (value : Value) → IsGoodAt shape default value → IsTextValue value
shape_text (forms.One form) default value good = form_text form default value good
shape_text shape default value good = absurd good

pub good_texts : (fields : List Field) (values : List Value) → AreGood fields values → AreTexts values
good_texts [] [] good = tt
good_texts [] (value ∷ values) good = absurd good
good_texts (field ∷ fields) [] good = absurd good
good_texts (field ∷ fields) (value ∷ values) good = (shape_text field.shape field.default value good.0, good_texts fields values good.1)

-- good values, one by one

pub number_good : (n most : ℕ) → n ≤ most → (0 ≤ n) × (nat_le n most ≡ true)
number_good n most small = (omega arith, le-leb n most small)

pub uuid_good : (uuid : Option ℕ) → IfSome uuid (λ n. n < 2 ^ 128) → IsGood forms.Uuid (Some Value.Nothing) (uuid_or_nothing uuid)
uuid_good None fits = refl
uuid_good (Some n) fits = fits

-- What is taken of values, with others behind them, is the part, and those others; they are as they should be, and their texts are UTF-8.
pub record IsValued {V : Type 0} (Fit : List Value → Type 0) (taken : List Value → V × List Value) (values : List Value) (part : V) : Type 0 where
  pub back : (more : List Value) → taken (values ++ more) ≡ (part, more)
  pub fits : Fit values
  pub texts : AreTexts values

pub texts_append : (values more : List Value) → AreTexts values → AreTexts more → AreTexts (values ++ more)
texts_append [] more texts others = others
texts_append (value ∷ values) more texts others = (texts.0, texts_append values more texts.1 others)

-- a list

with_first : {V : Type 0} → V → List V × List Value → List V × List Value
with_first part others = (part ∷ others.0, others.1)

each_back : {V : Type 0} (Fit : List Value → Type 0) (taken : List Value → V × List Value) (values_of : V → List Value) (parts : List V)
    → AllByRecursion (λ part. IsValued Fit taken (values_of part) part) parts → (more : List Value)
    → each_of taken (length parts) (flat_map values_of parts ++ more) ≡ (parts, more)
unfolding with_first
each_back Fit taken values_of [] valued more = refl
each_back Fit taken values_of (part ∷ parts) valued more =
    let others = flat_map values_of parts in
    ap (λ values. with_first (taken values).0 (each_of taken (length parts) (taken values).1)) (append_assoc (values_of part) others more)
    ∙ ap (λ (both : _ × List Value). with_first both.0 (each_of taken (length parts) both.1)) (valued.0.back (others ++ more))
    ∙ ap (with_first part) (each_back Fit taken values_of parts valued.1 more)

each_fits : {V : Type 0} (Fit : List Value → Type 0) (taken : List Value → V × List Value) (values_of : V → List Value) (parts : List V)
    → AllByRecursion (λ part. IsValued Fit taken (values_of part) part) parts → AreParts Fit (length parts) (flat_map values_of parts)
each_fits Fit taken values_of [] valued = refl
each_fits Fit taken values_of (part ∷ parts) valued =
    (values_of part, flat_map values_of parts, refl, valued.0.fits, each_fits Fit taken values_of parts valued.1)

each_texts : {V : Type 0} (Fit : List Value → Type 0) (taken : List Value → V × List Value) (values_of : V → List Value) (parts : List V)
    → AllByRecursion (λ part. IsValued Fit taken (values_of part) part) parts → AreTexts (flat_map values_of parts)
each_texts Fit taken values_of [] valued = tt
each_texts Fit taken values_of (part ∷ parts) valued =
    texts_append (values_of part) (flat_map values_of parts) valued.0.texts (each_texts Fit taken values_of parts valued.1)

pub list_valued : {V : Type 0} (Fit : List Value → Type 0) (taken : List Value → V × List Value) (values_of : V → List Value) (parts : List V)
    → AllByRecursion (λ part. IsValued Fit taken (values_of part) part) parts
    → IsValued (IsCounted Fit) (list_of taken) (list_values values_of parts) parts
unfolding list_of list_values
list_valued Fit taken values_of parts valued = record {
  back = each_back Fit taken values_of parts valued;
  fits = (length parts, flat_map values_of parts, refl, each_fits Fit taken values_of parts valued);
  texts = (tt, each_texts Fit taken values_of parts valued);
}

-- a table that may be left out

abbrev pub IsOptional : (List Value → Type 0) → List Value → Type 0
IsOptional Fit values =
    ((default : Value) × (Some (Value.Count 0) ≡ Some default) × (values ≡ default ∷ []))
    ⊎ ((others : List Value) × (values ≡ Value.Count 1 ∷ others) × Fit others)

some_part : {V : Type 0} → V × List Value → Option V × List Value
some_part both = (Some both.0, both.1)

pub part_valued : {V : Type 0} (Fit : List Value → Type 0) (taken : List Value → V × List Value) (values_of : V → List Value) (part : Option V)
    → IfSome part (λ given. IsValued Fit taken (values_of given) given)
    → IsValued (IsOptional Fit) (part_of taken) (part_values values_of part) part
unfolding part_of part_values some_part
part_valued Fit taken values_of None valued = record { back = λ more. refl; fits = inl (Value.Count 0, refl, refl); texts = (tt, tt) }
part_valued Fit taken values_of (Some part) valued = record {
  back = λ more. ap some_part (valued.back more);
  fits = inr (values_of part, refl, valued.fits);
  texts = (tt, valued.texts);
}

-- keys, and those behind them

abbrev pub FitsFirst : (ℕ → List Value → Type 0) → List Field → List Value → Type 0
FitsFirst Inside [] values = ⊥
FitsFirst Inside (field ∷ fields) values = FitsField Inside field values

pub first_key : (Inside : ℕ → List Value → Type 0) (fields : List Field) (values more : List Value) → FitsFirst Inside fields values
    → FitsFields Inside (drop 1 fields) more → FitsFields Inside fields (values ++ more)
first_key Inside [] values more here there = absurd here
first_key Inside (field ∷ fields) values more here there = (values, more, refl, here, there)

pub last_key : (Inside : ℕ → List Value → Type 0) (fields : List Field) (values : List Value) → FitsFirst Inside fields values
    → FitsFields Inside (drop 1 fields) [] → FitsFields Inside fields values
last_key Inside [] values here there = absurd here
last_key Inside (field ∷ fields) values here there = (values, [], sym (append-nil values), here, there)

pub keys_append : (Inside : ℕ → List Value → Type 0) (fields others : List Field) (values more : List Value) → FitsFields Inside fields values
    → FitsFields Inside others more → FitsFields Inside (fields ++ others) (values ++ more)
keys_append Inside [] others values more fits behind = rw fits behind
keys_append Inside (field ∷ fields) others values more (part, left, is, here, there) behind =
    (part, left ++ more, ap (λ all. all ++ more) is ∙ append_assoc part left more, here, keys_append Inside fields others left more there behind)

-- what two facts say of each element

pub both_of_each : {X : Type 0} (P Q R : X → Type 0) → ((x : X) → P x → Q x → R x) → (xs : List X) → AllByRecursion P xs → AllByRecursion Q xs
    → AllByRecursion R xs
both_of_each P Q R f [] p q = tt
both_of_each P Q R f (x ∷ xs) p q = (f x p.0 q.0, both_of_each P Q R f xs p.1 q.1)

pub each_holds : {X : Type 0} (P Q : X → Type 0) → ((x : X) → P x → Q x) → (xs : List X) → AllByRecursion P xs → AllByRecursion Q xs
each_holds P Q f [] p = tt
each_holds P Q f (x ∷ xs) p = (f x p.0, each_holds P Q f xs p.1)

pub all_of_each : {X : Type 0} (P Q R S : X → Type 0) → ((x : X) → P x → Q x → R x → S x) → (xs : List X) → AllByRecursion P xs
    → AllByRecursion Q xs → AllByRecursion R xs → AllByRecursion S xs
all_of_each P Q R S f [] p q r = tt
all_of_each P Q R S f (x ∷ xs) p q r = (f x p.0 q.0 r.0, all_of_each P Q R S f xs p.1 q.1 r.1)

pub both_of_given : {X : Type 0} (P Q R : X → Type 0) → ((x : X) → P x → Q x → R x) → (given : Option X) → IfSome given P → IfSome given Q
    → IfSome given R
both_of_given P Q R f None p q = tt
both_of_given P Q R f (Some x) p q = f x p q

pub given_holds : {X : Type 0} (P Q : X → Type 0) → ((x : X) → P x → Q x) → (given : Option X) → IfSome given P → IfSome given Q
given_holds P Q f None p = tt
given_holds P Q f (Some x) p = f x p
