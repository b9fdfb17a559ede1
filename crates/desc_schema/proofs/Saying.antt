-- A walk gives exactly what the tables say, part by part.
use Rattle.std.proofs.Common.{◌≡◌, ◌↔◌, ℕ, ℤ, pos, negsuc, zero, suc, ◌+◌, ◌≤◌, true, List, [], ◌∷◌, ◌++◌, length, map, replicate, Contains}
use Rattle.std.proofs.Common.{Option, Some, None, MatchOption, Result, Ok, Err, refl, sym, ap, ◌∙◌, subst, ⊎_elim, arith}
use Rattle.std.proofs.lemmas.Bool.{cases_Bool, and_parts, leb-true, le-leb, false≢true, or_right, cond-false}
use Rattle.std.proofs.lemmas.Slice.Eq.{bytes_eq-Decides}
use Rattle.std.specs.Prelude.{nat_le, ◌&&◌}
use Rattle.std.specs.Int.{w128, from_be_bytes}
use Rattle.std.specs.Str.{bytes_eq}
use Rattle.vt_outside.specs.Readings.{◌into◌}
use Rattle.std.specs.Option.{ok_or}
use Rattle.vt_outside.proofs.Readings.{part_read}
use Rattle.toml.specs.Data.{Data, string, integer, boolean, array, table, Items, no_items, item, Members, no_members, member, get_member}
use Rattle.toml.specs.Data.{as_table, as_array}
use Rattle.uuid.specs.Text.{parsed}
use Rattle.desc_schema.specs.declared.value.Value.{Value}
use Rattle.desc_schema.specs.declared.fault.Place.{Place}
use Rattle.desc_schema.specs.declared.fault.KeyPlace.{KeyPlace}
use Rattle.desc_schema.specs.declared.fault.WalkFault.{WalkFault}
use Rattle.desc_schema.specs.declared.fault.WalkFault.TheVariants.{WrongKind}
use Rattle.desc_schema.specs.Form.{Form, Shape, Field, fields_at}
use Rattle.desc_schema.specs.Form as forms
use Rattle.desc_schema.specs.Faults.{key_at, alone}
use Rattle.desc_schema.specs.Single.{value_of, number_of, uuid_from, word_from, otherwise_of}
use Rattle.desc_schema.specs.Walk.{Part, Walk, Inner, after, joined, one, element, elements, singles, shaped, found_or, at_field, at_fields, all_known}
use Rattle.desc_schema.specs.Walk.{table_walked, walked, position, advanced, count_of, is_known}
use Rattle.desc_schema.specs.Says.{HasOnlyKeys, IsFirst, SaysValue, SaysOne, SaysTable, AreCounted, AreInTurn, SayEach, SaysShape, SaysField, SayFields}
use Rattle.desc_schema.specs.Says.{SaysTo, Says}

-- something is given exactly where this holds of it; values are, whatever the positions
abbrev Gives : {A : Type 0} → Result A WalkFault → (A → Type 0) → Type 0
Gives {A} given Is = (a : A) → (given ≡ Ok a) ↔ Is a

abbrev GivesValues : Part → (List Value → Type 0) → Type 0
GivesValues given Are = (values : List Value) → ((left : List ℕ) × (given ≡ Ok (values, left))) ↔ Are values

same_ok : {A : Type 0} (a b : A) (given : Result A WalkFault) → given ≡ Ok a → given ≡ Ok b → a ≡ b
same_ok a b given is other = cc

abbrev ok : {A : Type 0} → A → Result A WalkFault
ok a = Ok a

abbrev refused : (A : Type 0) → WalkFault → Result A WalkFault
refused A fault = Err fault

ok_is : {A : Type 0} (a b : A) → ok a ≡ Ok b → b ≡ a
ok_is a b is = same_ok b a (Ok a) is refl

not_refused : {A : Type 0} (a : A) (fault : WalkFault) → refused A fault ≡ Ok a → ⊥
not_refused a fault is = cc

gives_bound : {A : Type 0} (given : Result A WalkFault) (next : A → Part) (Is : A → Type 0) (Are : A → List Value → Type 0)
    → Gives given Is → ((a : A) → GivesValues (next a) (Are a)) → GivesValues (given into next) (λ values. (a : A) × Is a × Are a values)
gives_bound given next Is Are first second values = (
  λ gave. let (a, is, e) = part_read given next (values, gave.0) gave.1 in (a, (first a).0 is, (second a values).0 (gave.0, e)),
  λ says. let made = (second says.0 values).1 says.2 in (made.0, rw ((first says.0).1 says.1) made.1),
)

gives_these : (these : List Value) (positions : List ℕ) → GivesValues (Ok (these, positions)) (λ values. values ≡ these)
gives_these these positions values = (
  λ gave. ap (λ (p : List Value × List ℕ). p.0) (ok_is (these, positions) (values, gave.0) gave.1),
  λ is. (positions, rw is refl),
)

gives_one : (given : Result Value WalkFault) (positions : List ℕ) (Is : Value → Type 0) → Gives given Is
    → GivesValues (one given positions) (λ values. (found : Value) × Is found × (values ≡ found ∷ []))
gives_one given positions Is is =
    gives_bound given (λ found. Ok (found ∷ [], positions)) Is (λ found values. values ≡ found ∷ []) is (λ found. gives_these (found ∷ []) positions)

gives_after : (front : List Value) (given : Part) (Are : List Value → Type 0) → GivesValues given Are
    → GivesValues (after front given) (λ values. (rest : List Value) × (values ≡ front ++ rest) × Are rest)
gives_after front given Are are values = (
  λ gave.
      let (more, is, e) = part_read given (λ more. Ok (front ++ more.0, more.1)) (values, gave.0) gave.1 in
      (more.0, ap (λ (p : List Value × List ℕ). p.0) (ok_is _ _ e), (are more.0).0 (more.1, is)),
  λ says. let made = (are says.0).1 says.2 in (made.0, rw (made.1, says.1) refl),
)

gives_joined : (given : Part) (others : Walk) (First Second : List Value → Type 0) → GivesValues given First
    → ((positions : List ℕ) → GivesValues (others positions) Second) → GivesValues (joined given others) (AreInTurn First Second)
gives_joined given others First Second first second values = (
  λ gave.
      let (here, is, e) = part_read given (λ here. after here.0 (others here.1)) (values, gave.0) gave.1 in
      let (rest, same, says) = (gives_after here.0 (others here.1) Second (second here.1) values).0 (gave.0, e) in
      (here.0, rest, same, (first here.0).0 (here.1, is), says),
  λ says.
      let made = (first says.0).1 says.3 in
      let more = (gives_after says.0 (others made.0) Second (second made.0) values).1 (says.1, says.2, says.4) in
      (more.0, rw made.1 more.1),
)

-- tables and arrays
table_given : (at : KeyPlace) (node : Data) → Gives (ok_or (as_table node) (WrongKind at)) (λ inside. node ≡ table inside)
table_given at (table ms) inside = (λ is. cc, λ is. cc)
table_given at node inside = (λ is. absurd (cc), λ is. absurd (cc))

array_given : (at : KeyPlace) (node : Data) → Gives (ok_or (as_array node) (WrongKind at)) (λ inside. node ≡ array inside)
array_given at (array ds) inside = (λ is. cc, λ is. cc)
array_given at node inside = (λ is. absurd (cc), λ is. absurd (cc))

-- single values

said_number : (at : KeyPlace) (least most : ℕ) (z : ℤ) (found : Value) → number_of at least most z ≡ Ok found
    → (n : ℕ) × (z ≡ pos n) × (least ≤ n) × (n ≤ most) × (found ≡ Value.Number n)
said_number at least most (negsuc n) found is = absurd (not_refused found _ is)
said_number at least most (pos n) found is =
    ⊎_elim
    (λ within.
    let (low, high) = and_parts (nat_le least n) (nat_le n most) within in
    (n, refl, leb-true least n low, leb-true n most high, ok_is _ _ (rw within at is)))
    (λ out. absurd (not_refused found _ (rw out at is)))
    (cases_Bool (nat_le least n && nat_le n most))

said_uuid : (at : KeyPlace) (read : Option (List ℕ)) (found : Value) → uuid_from at read ≡ Ok found
    → (bytes : List ℕ) × (read ≡ Some bytes) × (found ≡ Value.Uuid (from_be_bytes w128 bytes))
said_uuid at None found is = absurd (not_refused found _ is)
said_uuid at (Some bytes) found is = (bytes, refl, ok_is _ _ is)

said_word : (at : KeyPlace) (k : ℕ) (words : List (List ℕ)) (text : List ℕ) (found : Value) → word_from at k words text ≡ Ok found
    → (n : ℕ) × IsFirst words text n × (found ≡ Value.Word (k + n))
unfolding word_from
said_word at k [] text found is = absurd (not_refused found _ is)
said_word at k (word ∷ words) text found is =
    ⊎_elim
    (λ same.
    let here : k ≡ k + 0 = omega arith in
    (0, (bytes_eq-Decides word text).0 same, ok_is _ _ (rw same at is) ∙ ap Value.Word here))
    (λ other.
    let (n, first, e) = said_word at (k + 1) words text found (rw other at is) in
    let here : k + 1 + n ≡ k + suc n = omega arith in
    (suc n, ((λ same. absurd (false≢true (sym other ∙ (bytes_eq-Decides word text).1 same))), first), e ∙ ap Value.Word here))
    (cases_Bool (bytes_eq word text))

word_said : (at : KeyPlace) (k : ℕ) (words : List (List ℕ)) (text : List ℕ) (n : ℕ) → IsFirst words text n
    → word_from at k words text ≡ Ok (Value.Word (k + n))
unfolding word_from
word_said at k [] text n first = absurd first
word_said at k (word ∷ words) text zero is =
    let here : k + 0 ≡ k = omega arith in
    rw ((bytes_eq-Decides word text).1 is, here) refl
word_said at k (word ∷ words) text (suc n) (other, first) =
    let here : k + suc n ≡ k + 1 + n = omega arith in
    ⊎_elim
    (λ same. absurd (other ((bytes_eq-Decides word text).0 same)))
    (λ differs. cond-false _ _ _ differs ∙ word_said at (k + 1) words text n first ∙ ap (λ (j : ℕ). Ok (Value.Word j)) (sym here))
    (cases_Bool (bytes_eq word text))

value_said : (at : KeyPlace) (form : Form) (node : Data) (found : Value) → value_of at form node ≡ Ok found → SaysValue form node found
value_said at forms.Text (string text) found is = (text, refl, ok_is _ _ is)
value_said at (forms.Number least most) (integer z) found is =
    let (n, same, low, high, e) = said_number at least most z found is in
    (n, ap integer same, low, high, e)
value_said at forms.Flag (boolean flag) found is = (flag, refl, ok_is _ _ is)
value_said at forms.Uuid (string text) found is =
    let (bytes, read, e) = said_uuid at (parsed text) found is in
    (text, bytes, refl, read, e)
value_said at (forms.Word words) (string text) found is =
    let (n, first, e) = said_word at 0 words text found is in
    let here : 0 + n ≡ n = omega arith in
    (text, n, refl, first, e ∙ ap Value.Word here)
value_said at form node found is = absurd (not_refused found _ is)

said_value : (at : KeyPlace) (form : Form) (node : Data) (found : Value) → SaysValue form node found → value_of at form node ≡ Ok found
said_value at forms.Text node found (text, same, is) = rw (same, is) refl
said_value at (forms.Number least most) node found (n, same, low, high, is) = rw (same, is, le-leb least n low, le-leb n most high) refl
said_value at forms.Flag node found (flag, same, is) = rw (same, is) refl
said_value at forms.Uuid node found (text, bytes, same, read, is) = rw (same, is, read) refl
said_value at (forms.Word words) node found (text, n, same, first, is) =
    let here : 0 + n ≡ n = omega arith in
    rw (same, is) (word_said at 0 words text n first ∙ ap (λ (k : ℕ). Ok (Value.Word k)) here)

one_given : (at : KeyPlace) (form : Form) (node : Data) (positions : List ℕ) → GivesValues (one (value_of at form node) positions) (SaysOne form node)
one_given at form node positions =
    gives_one (value_of at form node) positions (SaysValue form node) (λ found. (value_said at form node found, said_value at form node found))

-- the walk of inner tables gives what `Inside` says of them
abbrev AllGive : Inner → (ℕ → Members → List Value → Type 0) → Type 0
AllGive inner Inside = (place : Place) (entries : Members) (positions : List ℕ) → GivesValues (inner place entries positions) (Inside place.table entries)

elements_given : (inner : Inner) (Inside : ℕ → Members → List Value → Type 0) (all : AllGive inner Inside) (at : KeyPlace) (n : ℕ) (nodes : Items)
    (positions : List ℕ) → GivesValues (elements inner at n nodes positions) (SayEach (SaysTable (Inside n)) nodes)
unfolding elements
elements_given inner Inside all at n no_items positions = gives_these [] positions
elements_given inner Inside all at n (item node nodes) positions =
    gives_joined (element inner at n node positions) (elements inner at n nodes) (SaysTable (Inside n) node) (SayEach (SaysTable (Inside n)) nodes)
    (gives_bound (ok_or (as_table node) (WrongKind at)) (λ inside. inner (record { table = n; index = position n positions }) inside (advanced n positions))
    (λ inside. node ≡ table inside) (Inside n) (table_given at node)
    (λ inside. all (record { table = n; index = position n positions }) inside (advanced n positions)))
    (elements_given inner Inside all at n nodes)

singles_given : (at : KeyPlace) (form : Form) (nodes : Items) (positions : List ℕ)
    → GivesValues (singles at form nodes positions) (SayEach (SaysOne form) nodes)
unfolding singles
singles_given at form no_items positions = gives_these [] positions
singles_given at form (item node nodes) positions =
    gives_joined (one (value_of at form node) positions) (singles at form nodes) (SaysOne form node) (SayEach (SaysOne form) nodes)
    (one_given at form node positions) (singles_given at form nodes)

shape_given : (inner : Inner) (Inside : ℕ → Members → List Value → Type 0) (all : AllGive inner Inside) (at : KeyPlace) (shape : Shape) (node : Data)
    (positions : List ℕ) → GivesValues (shaped inner at shape node positions) (SaysShape Inside shape node)
shape_given inner Inside all at (forms.One form) node positions = one_given at form node positions
shape_given inner Inside all at (forms.Table n) node positions =
    gives_bound (ok_or (as_table node) (WrongKind at)) (λ inside. after (Value.Count 1 ∷ []) (inner (alone n) inside positions)) (λ inside. node ≡ table inside)
    (λ inside. AreCounted 1 (Inside n inside)) (table_given at node)
    (λ inside. gives_after (Value.Count 1 ∷ []) (inner (alone n) inside positions) (Inside n inside) (all (alone n) inside positions))
shape_given inner Inside all at (forms.Tables n) node positions =
    gives_bound (ok_or (as_array node) (WrongKind at)) (λ nodes. after (Value.Count (count_of nodes) ∷ []) (elements inner at n nodes positions))
    (λ nodes. node ≡ array nodes) (λ nodes. AreCounted (count_of nodes) (SayEach (SaysTable (Inside n)) nodes)) (array_given at node)
    (λ nodes. gives_after (Value.Count (count_of nodes) ∷ []) (elements inner at n nodes positions) (SayEach (SaysTable (Inside n)) nodes)
    (elements_given inner Inside all at n nodes positions))
shape_given inner Inside all at (forms.Values form) node positions =
    gives_bound (ok_or (as_array node) (WrongKind at)) (λ nodes. after (Value.Count (count_of nodes) ∷ []) (singles at form nodes positions))
    (λ nodes. node ≡ array nodes) (λ nodes. AreCounted (count_of nodes) (SayEach (SaysOne form) nodes)) (array_given at node)
    (λ nodes. gives_after (Value.Count (count_of nodes) ∷ []) (singles at form nodes positions) (SayEach (SaysOne form) nodes)
    (singles_given at form nodes positions))

default_given : (at : KeyPlace) (default : Option Value) → Gives (otherwise_of at default) (λ found. default ≡ Some found)
default_given at None found = (λ is. absurd (cc), λ is. absurd (cc))
default_given at (Some default) found = (λ is. cc, λ is. cc)

field_given : (inner : Inner) (Inside : ℕ → Members → List Value → Type 0) (all : AllGive inner Inside) (at : KeyPlace) (field : Field) (node : Option Data)
    (positions : List ℕ) → GivesValues (found_or inner at field node positions)
    (λ values. MatchOption node ((default : Value) × (field.default ≡ Some default) × (values ≡ default ∷ []))
    (λ there. SaysShape Inside field.shape there values))
field_given inner Inside all at field None positions =
    gives_one (otherwise_of at field.default) positions (λ found. field.default ≡ Some found) (default_given at field.default)
field_given inner Inside all at field (Some node) positions = shape_given inner Inside all at field.shape node positions

fields_given : (inner : Inner) (Inside : ℕ → Members → List Value → Type 0) (all : AllGive inner Inside) (place : Place) (fields : List Field)
    (entries : Members) (positions : List ℕ) → GivesValues (at_fields inner place fields entries positions) (SayFields Inside fields entries)
unfolding at_fields
fields_given inner Inside all place [] entries positions = gives_these [] positions
fields_given inner Inside all place (field ∷ fields) entries positions =
    gives_joined (at_field inner place field entries positions) (at_fields inner place fields entries)
    (SaysField Inside field entries) (SayFields Inside fields entries)
    (field_given inner Inside all (key_at place field.number) field (get_member field.name entries) positions)
    (fields_given inner Inside all place fields entries)

-- the keys of a table

abbrev names : List Field → List (List ℕ)
names fields = map (λ (field : Field). field.name) fields

contained : (fields : List Field) (name : List ℕ) → is_known fields name ≡ true → Contains (names fields) name
contained [] name known = absurd (false≢true known)
contained (field ∷ fields) name known = ⊎_elim
    (λ same. (0, omega arith, (bytes_eq-Decides field.name name).0 same))
    (λ other.
    let there = contained fields name (rw other at known) in
    (suc there.0, omega (arith, there.1), there.2))
    (cases_Bool (bytes_eq field.name name))

known_of : (fields : List Field) (name : List ℕ) → Contains (names fields) name → is_known fields name ≡ true
known_of [] name there = absurd (omega (arith, there.1))
known_of (field ∷ fields) name (zero, within, is) = rw ((bytes_eq-Decides field.name name).1 is) refl
known_of (field ∷ fields) name (suc i, within, is) =
    or_right (bytes_eq field.name name) (is_known fields name) (known_of fields name (i, omega (arith, within), is))

keys_given : (place : Place) (fields : List Field) (entries : Members) → Gives (all_known place fields entries) (λ known. HasOnlyKeys (names fields) entries)
keys_given place fields no_members known = (λ is. tt, λ only. refl)
keys_given place fields (member name node others) known =
    let all = keys_given place fields others known in
    ⊎_elim
    (λ known. (λ is. (contained fields name known, all.0 (rw known at is)), λ only. rw known (all.1 only.1)))
    (λ unknown. (λ is. absurd (not_refused tt _ (rw unknown at is)), λ only. absurd (false≢true (sym unknown ∙ known_of fields name only.0))))
    (cases_Bool (is_known fields name))

tables_given : (schema : List (List Field)) (depth : ℕ) → AllGive (table_walked schema depth) (SaysTo schema depth)
unfolding table_walked
tables_given schema zero place entries positions values = gives_these [] positions values
tables_given schema (suc depth) place entries positions values =
    let fields = fields_at schema place.table in
    let both = gives_bound (all_known place fields entries) (λ known. at_fields (table_walked schema depth) place fields entries positions)
    (λ known. HasOnlyKeys (names fields) entries) (λ known. SayFields (SaysTo schema depth) fields entries) (keys_given place fields entries)
    (λ known. fields_given (table_walked schema depth) (SaysTo schema depth) (tables_given schema depth) place fields entries positions) values in
    (λ gave. let (known, only, says) = both.0 gave in (only, says), λ says. both.1 (tt, says.0, says.1))

pub walked_says : (schema : List (List Field)) (root : Members) (values : List Value) → (walked schema root ≡ Ok values) ↔ Says schema root values
walked_says schema root values =
    let given = table_walked schema (length schema) (alone 0) root (replicate (length schema) 0) in
    let both = tables_given schema (length schema) (alone 0) root (replicate (length schema) 0) in (
      λ is.
          let (part, gave, e) = part_read given (λ part. Ok part.0) values is in
          subst (λ (vs : List Value). Says schema root vs) (sym (ok_is part.0 values e)) ((both part.0).0 (part.1, gave)),
      λ says. let made = (both values).1 says in rw made.1 refl,
    )
