-- A document that is written is at most twice as deep as the schema has tables, and no date-time stands in it.
use Rattle.std.proofs.Common.{◌≡◌, ℕ, zero, suc, ◌+◌, ◌*◌, ◌≤◌, ◌==◌, ◌&&◌, Bool, true, false, List, [], ◌∷◌, length, Option, Some, None, refl, arith}
use Rattle.std.specs.Prelude.{is_some, if◌then◌else◌}
use Rattle.toml.specs.Data.{Data, Items, Members, no_members, array, depth, items_depth, members_depth, has_valid_dates, items_have_valid_dates}
use Rattle.toml.specs.Data.{members_have_valid_dates}
use Rattle.desc_schema.specs.declared.value.Value.{Value}
use Rattle.desc_schema.specs.Form.{Form, Shape, Field, fields_at}
use Rattle.desc_schema.specs.Form as forms
use Rattle.desc_schema.specs.Taken.{first, rest}
use Rattle.desc_schema.specs.Written.{Spelling, word_node, node_of, single_or_empty, Write, tables_written, singles_written, array_written, table_written}
use Rattle.desc_schema.specs.Written.{shape_written, field_written, with_member, fields_written, written_to, written}
use Rattle.desc_schema.proofs.Putting.{IsShallow, shallow-with, HasDates, dates-with}

-- what is written for a single value has nothing inside
abbrev IsPlain : Option Data → Type 0
IsPlain None = Unit {0}
IsPlain (Some node) = (depth node ≡ 0) × (has_valid_dates node ≡ true)

word_plain : (n : ℕ) (words : List (List ℕ)) → IsPlain (word_node n words)
word_plain n [] = tt
word_plain zero (word ∷ words) = (refl, refl)
word_plain (suc n) (word ∷ words) = word_plain n words

kept_plain : (node : Data) (kept : Bool) → IsPlain (Some node) → IsPlain (if kept then Some node else None)
kept_plain node true plain = plain
kept_plain node false plain = tt

node_plain : (spell : Spelling) (form : Form) (value : Value) → IsPlain (node_of spell form value)
node_plain spell forms.Text (Value.Text text) = (refl, refl)
node_plain spell (forms.Number least most) (Value.Number n) = kept_plain _ _ (refl, refl)
node_plain spell forms.Flag (Value.Flag flag) = (refl, refl)
node_plain spell forms.Uuid (Value.Uuid n) = (refl, refl)
node_plain spell (forms.Word words) (Value.Word n) = word_plain n words
node_plain spell form value = tt

plain_shallow : (most : ℕ) (node : Option Data) → IsPlain node → IsShallow most node
plain_shallow most None plain = tt
plain_shallow most (Some node) plain = omega (arith, plain.0)

plain_dates : (node : Option Data) → IsPlain node → HasDates node
plain_dates None plain = tt
plain_dates (Some node) plain = plain.1

single_plain : (node : Option Data) → IsPlain node → IsPlain (Some (single_or_empty node))
single_plain None plain = (refl, refl)
single_plain (Some node) plain = plain

singles_plain : (spell : Spelling) (form : Form) (n : ℕ) (values : List Value)
    → (items_depth (singles_written spell form n values).0 ≡ 0) × (items_have_valid_dates (singles_written spell form n values).0 ≡ true)
singles_plain spell form zero values = (refl, refl)
singles_plain spell form (suc n) values =
    let (flat, dates) = single_plain (node_of spell form (first values)) (node_plain spell form (first values)) in
    let (flats, all_dates) = singles_plain spell form n (rest values) in
    (rw (flat, flats) refl, rw (dates, all_dates) refl)

-- what is written of inner tables, whatever the values
abbrev AllAre : Write → (Members → Type 0) → Type 0
AllAre write Inside = (number : ℕ) (values : List Value) → Inside (write number values).0

-- depth

abbrev IsWithin : ℕ → Members → Type 0
IsWithin most entries = members_depth entries ≤ most

tables_shallow : (write : Write) (most : ℕ) → AllAre write (IsWithin most) → (number n : ℕ) (values : List Value)
    → items_depth (tables_written write number n values).0 ≤ most + 1
tables_shallow write most all number zero values = omega arith
tables_shallow write most all number (suc n) values =
    omega (arith, all number values, tables_shallow write most all number n (write number values).1)

kept_shallow : (most : ℕ) (node : Data) (out : Bool) → depth node ≤ most → IsShallow most (if out then None else Some node)
kept_shallow most node true within = tt
kept_shallow most node false within = within

array_shallow : (most : ℕ) (optional : Bool) (parts : ℕ → List Value → Items × List Value) (count : Value) (left : List Value)
    → ((n : ℕ) → items_depth (parts n left).0 ≤ most + 1) → IsShallow (most + 2) (array_written optional parts count left).0
array_shallow most optional parts (Value.Count n) left all = kept_shallow (most + 2) (array (parts n left).0) (optional && (n == 0)) (omega (arith, all n))
array_shallow most optional parts count left all = tt

table_shallow : (most : ℕ) (inner : List Value → Members × List Value) (count : Value) (left : List Value)
    → members_depth (inner left).0 ≤ most → IsShallow (most + 2) (table_written inner count left).0
table_shallow most inner (Value.Count (suc n)) left within = omega arith
table_shallow most inner count left within = tt

shape_shallow : (spell : Spelling) (write : Write) (most : ℕ) → AllAre write (IsWithin most) → (optional : Bool) (shape : Shape) (values : List Value)
    → IsShallow (most + 2) (shape_written spell write optional shape values).0
shape_shallow spell write most all optional (forms.One form) values =
    plain_shallow (most + 2) (node_of spell form (first values)) (node_plain spell form (first values))
shape_shallow spell write most all optional (forms.Table number) values =
    table_shallow most (write number) (first values) (rest values) (all number (rest values))
shape_shallow spell write most all optional (forms.Tables number) values =
    array_shallow most optional (tables_written write number) (first values) (rest values) (λ n. tables_shallow write most all number n (rest values))
shape_shallow spell write most all optional (forms.Values form) values =
    array_shallow most optional (singles_written spell form) (first values) (rest values) (λ n. omega (arith, (singles_plain spell form n (rest values)).0))

fields_shallow : (spell : Spelling) (write : Write) (most : ℕ) → AllAre write (IsWithin most) → (fields : List Field) (values : List Value) (made : Members)
    → members_depth made ≤ most + 2 → members_depth (fields_written spell write fields values made).0 ≤ most + 2
fields_shallow spell write most all [] values made within = within
fields_shallow spell write most all (field ∷ fields) values made within =
    let here = field_written spell write field values in
    fields_shallow spell write most all fields here.1 (with_member field.name here.0 made)
    (shallow-with (most + 2) field.name here.0 made (shape_shallow spell write most all (is_some field.default) field.shape values) within)

written_within : (spell : Spelling) (schema : List (List Field)) (depth : ℕ) → AllAre (written_to spell schema depth) (IsWithin (2 * depth))
written_within spell schema zero number values = omega arith
written_within spell schema (suc depth) number values =
    let within = fields_shallow spell (written_to spell schema depth) (2 * depth) (written_within spell schema depth) (fields_at schema number) values
    no_members
    (omega arith) in
    omega (arith, within)

pub written_shallow : (spell : Spelling) (schema : List (List Field)) (values : List Value) → members_depth (written spell schema values) ≤ 2 * length schema
written_shallow spell schema values = written_within spell schema (length schema) 0 values

-- date-times

abbrev AreDated : Members → Type 0
AreDated entries = members_have_valid_dates entries ≡ true

tables_dates : (write : Write) → AllAre write AreDated → (number n : ℕ) (values : List Value)
    → items_have_valid_dates (tables_written write number n values).0 ≡ true
tables_dates write all number zero values = refl
tables_dates write all number (suc n) values = rw (all number values, tables_dates write all number n (write number values).1) refl

kept_dates : (node : Data) (out : Bool) → has_valid_dates node ≡ true → HasDates (if out then None else Some node)
kept_dates node true dates = tt
kept_dates node false dates = dates

array_dates : (optional : Bool) (parts : ℕ → List Value → Items × List Value) (count : Value) (left : List Value)
    → ((n : ℕ) → items_have_valid_dates (parts n left).0 ≡ true) → HasDates (array_written optional parts count left).0
array_dates optional parts (Value.Count n) left all = kept_dates (array (parts n left).0) (optional && (n == 0)) (all n)
array_dates optional parts count left all = tt

table_dates : (inner : List Value → Members × List Value) (count : Value) (left : List Value) → AreDated (inner left).0
    → HasDates (table_written inner count left).0
table_dates inner (Value.Count (suc n)) left dated = dated
table_dates inner count left dated = tt

shape_dates : (spell : Spelling) (write : Write) → AllAre write AreDated → (optional : Bool) (shape : Shape) (values : List Value)
    → HasDates (shape_written spell write optional shape values).0
shape_dates spell write all optional (forms.One form) values = plain_dates (node_of spell form (first values)) (node_plain spell form (first values))
shape_dates spell write all optional (forms.Table number) values = table_dates (write number) (first values) (rest values) (all number (rest values))
shape_dates spell write all optional (forms.Tables number) values =
    array_dates optional (tables_written write number) (first values) (rest values) (λ n. tables_dates write all number n (rest values))
shape_dates spell write all optional (forms.Values form) values =
    array_dates optional (singles_written spell form) (first values) (rest values) (λ n. (singles_plain spell form n (rest values)).1)

fields_dates : (spell : Spelling) (write : Write) → AllAre write AreDated → (fields : List Field) (values : List Value) (made : Members) → AreDated made
    → AreDated (fields_written spell write fields values made).0
fields_dates spell write all [] values made dated = dated
fields_dates spell write all (field ∷ fields) values made dated =
    let here = field_written spell write field values in
    fields_dates spell write all fields here.1 (with_member field.name here.0 made)
    (dates-with field.name here.0 made (shape_dates spell write all (is_some field.default) field.shape values) dated)

tables_dated : (spell : Spelling) (schema : List (List Field)) (depth : ℕ) → AllAre (written_to spell schema depth) AreDated
tables_dated spell schema zero number values = refl
tables_dated spell schema (suc depth) number values =
    fields_dates spell (written_to spell schema depth) (tables_dated spell schema depth) (fields_at schema number) values no_members refl

pub written_dated : (spell : Spelling) (schema : List (List Field)) (values : List Value) → members_have_valid_dates (written spell schema values) ≡ true
written_dated spell schema values = tables_dated spell schema (length schema) 0 values
