-- The keys of a table, one after the other, as a loop takes them; the keys of the schema's tables.
use Rattle.std.proofs.Common.{◌≡◌, Less, true, false, ℕ, zero, suc, ◌<◌, ◌≤◌, List, [], ◌∷◌, length, get_or, Option, Some, None, Result, Ok, Err}
use Rattle.std.proofs.Common.{String, Global}
use Rattle.std.proofs.Common.{string_bytes, if◌then◌else◌, refl, sym, ap, ◌∙◌, subst, ⊎_elim, arith}
use Rattle.std.proofs.lemmas.Bool.{cases_Bool}
use Rattle.std.specs.Cmp.Lexicographic.{slice_cmp}
use Rattle.std.specs.List.{list_any, AllByRecursion}
use Rattle.std.specs.List.Sorted.{IsStrictlySortedBy}
use Rattle.std.specs.Ordering.{nat_cmp, is_le}
use Rattle.std.specs.String.{string_cmp}
use Rattle.std.specs.Map.{keys_of}
use Rattle.std.specs.Str.{bytes_eq}
use Rattle.std.proofs.lemmas.Option.{same_Some}
use Rattle.toml.specs.View.{members_view}
use Rattle.toml.specs.declared.value.Value.{Value as Node}
use Rattle.desc_schema.specs.declared.schema.Key.{Key}
use Rattle.desc_schema.specs.declared.schema.TableSchema.{TableSchema}
use Rattle.desc_schema.specs.declared.fault.Place.{Place}
use Rattle.desc_schema.specs.declared.fault.WalkFault.{WalkFault}
use Rattle.desc_schema.specs.declared.fault.WalkFault.TheVariants.{UnknownKey}
use Rattle.desc_schema.specs.Form.{Field, fields_of, schema_of, fields_at}
use Rattle.desc_schema.specs.Walk.{is_known, lesser, least_unknown, known_or, all_known}
use Rattle.desc_schema.proofs.Least.{none_some}

-- as `all_known`, of the keys alone
abbrev pub names_known : Place → List Field → List (String Global) → Result (Unit {0}) WalkFault
names_known place fields [] = Ok tt
names_known place fields (name ∷ names) =
    if list_any (λ (field : Field). bytes_eq field.name (string_bytes name)) fields then names_known place fields names else Err
    (UnknownKey place (string_bytes name))

le_lesser : (k name : List ℕ) (found : Option (List ℕ)) → slice_cmp nat_cmp k name ≡ Less
    → ((other : List ℕ) → found ≡ Some other → is_le (slice_cmp nat_cmp k other) ≡ true) → is_le (slice_cmp nat_cmp k (lesser name found)) ≡ true
le_lesser k name None less others = rw less refl
le_lesser k name (Some other) less others =
    ⊎_elim
    (λ le.
    let same : name ≡ lesser name (Some other) = rw le refl in
    subst (λ (n : List ℕ). is_le (slice_cmp nat_cmp k n) ≡ true) same (rw less refl))
    (λ gt.
    let same : other ≡ lesser name (Some other) = rw gt refl in
    subst (λ (n : List ℕ). is_le (slice_cmp nat_cmp k n) ≡ true) same (others other refl))
    (cases_Bool (is_le (slice_cmp nat_cmp name other)))

le_all : (fields : List Field) (k : List ℕ) (es : List (String Global × Node)) → AllByRecursion (λ y. slice_cmp nat_cmp k (string_bytes y) ≡ Less) (keys_of es)
    → (other : List ℕ) → least_unknown fields (members_view es) ≡ Some other → is_le (slice_cmp nat_cmp k other) ≡ true
le_all fields k [] all other is = absurd (none_some other is)
le_all fields k (e ∷ es) (here, all) other is =
    ⊎_elim
    (λ known. le_all fields k es all other (rw known at is))
    (λ unknown.
    let same : lesser (string_bytes e.0) (least_unknown fields (members_view es)) ≡ other = same_Some _ _ (rw unknown at is) in
    rw (sym same) (le_lesser k (string_bytes e.0) (least_unknown fields (members_view es)) here (λ found found_is. le_all fields k es all found found_is)))
    (cases_Bool (is_known fields (string_bytes e.0)))

-- the least unknown key comes behind a name that all keys come behind
behind_all : (fields : List Field) (k : List ℕ) (es : List (String Global × Node))
    → AllByRecursion (λ y. slice_cmp nat_cmp k (string_bytes y) ≡ Less) (keys_of es)
    → (found : Option (List ℕ)) → least_unknown fields (members_view es) ≡ found → lesser k found ≡ k
behind_all fields k es all None is = refl
behind_all fields k es all (Some other) is = rw (le_all fields k es all other is) refl

-- the first unknown key is the least one, since the keys ascend
pub names_known-of : (place : Place) (fields : List Field) (es : List (String Global × Node)) → IsStrictlySortedBy string_cmp (keys_of es)
    → all_known place fields (members_view es) ≡ names_known place fields (keys_of es)
unfolding IsStrictlySortedBy
names_known-of place fields [] sorted = refl
names_known-of place fields (e ∷ es) (above, sorted) =
    ⊎_elim
    (λ known. rw known (names_known-of place fields es sorted))
    (λ unknown.
    let name = string_bytes e.0 in
    let others = least_unknown fields (members_view es) in
    let first : least_unknown fields (members_view (e ∷ es)) ≡ Some name = rw unknown
    (ap (λ (n : List ℕ). Some n) (behind_all fields name es above others refl)) in
    let told : names_known place fields (keys_of (e ∷ es)) ≡ Err (UnknownKey place name) = rw unknown refl in
    ap (known_or place) first ∙ sym told)
    (cases_Bool (is_known fields (string_bytes e.0)))

any_field : (keys : List Key) (text : List ℕ) → list_any (λ (field : Field). bytes_eq field.name text) (fields_of keys) ≡ list_any
    (λ (key : Key). bytes_eq key.name.now text) keys
any_field [] text = refl
any_field (key ∷ keys) text = rw (any_field keys text)

pub names_known-on : (place : Place) (keys : List Key) (left : List (String Global)) (name : String Global) (more : List (String Global)) (text : List ℕ)
    → left ≡ name ∷ more
    → list_any (λ (key : Key). bytes_eq key.name.now text) keys ≡ true → text ≡ string_bytes name
    → names_known place (fields_of keys) left ≡ names_known place (fields_of keys) more
names_known-on place keys left name more text steps named is =
    let named : list_any (λ (field : Field). bytes_eq field.name (string_bytes name)) (fields_of keys) ≡ true = rw is at (any_field keys text ∙ named) in
    rw (steps, named)

pub names_known-not : (place : Place) (keys : List Key) (left : List (String Global)) (name : String Global) (more : List (String Global)) (text : List ℕ)
    → left ≡ name ∷ more
    → list_any (λ (key : Key). bytes_eq key.name.now text) keys ≡ false → text ≡ string_bytes name
    → names_known place (fields_of keys) left ≡ Err (UnknownKey place text)
names_known-not place keys left name more text steps unnamed is =
    let unnamed : list_any (λ (field : Field). bytes_eq field.name (string_bytes name)) (fields_of keys) ≡ false = rw is at (any_field keys text ∙ unnamed) in
    rw (steps, unnamed, is)

-- the keys of a table that is there, and of one that isn't
pub fields_found : (schema : List TableSchema) (n : ℕ) (table : TableSchema) → n < length schema → table ≡ get_or schema n table
    → fields_of table.keys.now ≡ fields_at (schema_of schema) n
fields_found [] n table within is = absurd (omega arith)
fields_found (first ∷ schema) zero table within is = ap (λ (t : TableSchema). fields_of t.keys.now) is
fields_found (first ∷ schema) (suc n) table within is = fields_found schema n table (omega arith) is

pub fields_none : (schema : List TableSchema) (n : ℕ) → length schema ≤ n → [] ≡ fields_at (schema_of schema) n
fields_none [] n past = refl
fields_none (first ∷ schema) zero past = absurd (omega arith)
fields_none (first ∷ schema) (suc n) past = fields_none schema n (omega arith)
