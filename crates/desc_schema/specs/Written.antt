-- The document that is written of values: the other direction of the walk.
use Rattle.std.specs.Prelude.{◌≡◌, ◌⊎◌, Bool, true, not, ◌&&◌, ◌==◌, ℕ, zero, suc, pos, ◌*◌, ◌-◌, ◌^◌, ◌≤◌, nat_le, List, [], ◌∷◌, length}
use Rattle.std.specs.Prelude.{Option, Some, None, is_some, Ok, if◌then◌else◌}
use Rattle.std.specs.Cmp.Lexicographic.{slice_cmp}
use Rattle.std.specs.Ordering.{nat_cmp, match_ordering}
use Rattle.std.specs.Int.{w128, from_be_bytes, to_be_bytes}
use Rattle.std.specs.List.{list_any, AllByRecursion}
use Rattle.std.specs.Str.{bytes_eq, IsUtf8}
use Rattle.toml.specs.Data.{Data, string, integer, boolean, array, table, Items, no_items, item, Members, no_members, member}
use Rattle.toml.specs.Data.{members_depth, members_have_valid_dates}
use Rattle.uuid.specs.Text.{parsed, lower, hyphenated_text}
use Rattle.desc_schema.specs.declared.value.Value.{Value}
use Rattle.desc_schema.specs.Form.{Form, Shape, Field, fields_at}
use Rattle.desc_schema.specs.Form as forms
use Rattle.desc_schema.specs.Taken.{first, rest}
use Rattle.desc_schema.specs.Walk.{is_known, walked}
use Rattle.desc_schema.specs.Fits.{FitsForm, Fits}

-- how a UUID is spelled, of its number
abbrev pub Spelling : Type 0
Spelling = ℕ → List ℕ

-- the text of a UUID is that of its number again
abbrev pub IsReadBack : Spelling → Type 0
IsReadBack spell = (text bytes : List ℕ) → parsed text ≡ Some bytes
    → (again : List ℕ) × (parsed (spell (from_be_bytes w128 bytes)) ≡ Some again) × (from_be_bytes w128 again ≡ from_be_bytes w128 bytes)

-- the form 8-4-4-4-12 of hexadecimal digits, in lower case (RFC 9562, section 4)
abbrev pub hyphenated : Spelling
hyphenated n = hyphenated_text lower (to_be_bytes w128 n)

-- the greatest integer of TOML (TOML 1.1, "Integer"): one of 64 bits with a sign
abbrev pub greatest_integer : ℕ
greatest_integer = 2 ^ 63 - 1

-- the word at a place
abbrev pub word_node : ℕ → List (List ℕ) → Option Data
word_node n [] = None
word_node zero (word ∷ words) = Some (string word)
word_node (suc n) (word ∷ words) = word_node n words

-- what is written for a single value; nothing for one of another kind, which stands where its key is left out
abbrev pub node_of : Spelling → Form → Value → Option Data
node_of spell forms.Text (Value.Text text) = Some (string text)
node_of spell (forms.Number least most) (Value.Number n) =
    if nat_le least n && (nat_le n most && nat_le n greatest_integer) then Some (integer (pos n)) else None
node_of spell forms.Flag (Value.Flag flag) = Some (boolean flag)
node_of spell forms.Uuid (Value.Uuid n) = Some (string (spell n))
node_of spell (forms.Word words) (Value.Word n) = word_node n words
node_of spell _ _ = None

-- what is written for a single value of an array
abbrev pub single_or_empty : Option Data → Data
single_or_empty None = string []
single_or_empty (Some node) = node

-- How the table of a number is written, and the values that are left.
abbrev pub Write : Type 0
Write = ℕ → List Value → Members × List Value

-- so many tables of an array, and the values that are left
abbrev pub tables_written : Write → ℕ → ℕ → List Value → Items × List Value
tables_written write number zero values = (no_items, values)
tables_written write number (suc n) values =
    let one = write number values in
    let others = tables_written write number n one.1 in
    (item (table one.0) others.0, others.1)

-- so many single values of an array, and the values that are left
abbrev pub singles_written : Spelling → Form → ℕ → List Value → Items × List Value
singles_written spell form zero values = (no_items, values)
singles_written spell form (suc n) values =
    let others = singles_written spell form n (rest values) in
    (item (single_or_empty (node_of spell form (first values))) others.0, others.1)

-- an array of so many parts; nothing where there is no count, and nothing for an empty one whose key may be left out
abbrev pub array_written : Bool → (ℕ → List Value → Items × List Value) → Value → List Value → Option Data × List Value
array_written optional parts (Value.Count n) left =
    let made = parts n left in
    (if optional && (n == 0) then None else Some (array made.0), made.1)
array_written optional parts other left = (None, left)

-- a table, where there is one
abbrev pub table_written : (List Value → Members × List Value) → Value → List Value → Option Data × List Value
table_written inner (Value.Count (suc n)) left = let made = inner left in (Some (table made.0), made.1)
table_written inner other left = (None, left)

-- what is written at a key that may be left out, or may not, and the values that are left; nothing where it is left out
abbrev pub shape_written : Spelling → Write → Bool → Shape → List Value → Option Data × List Value
shape_written spell write optional (forms.One form) values = (node_of spell form (first values), rest values)
shape_written spell write optional (forms.Table number) values = table_written (write number) (first values) (rest values)
shape_written spell write optional (forms.Tables number) values = array_written optional (tables_written write number) (first values) (rest values)
shape_written spell write optional (forms.Values form) values = array_written optional (singles_written spell form) (first values) (rest values)

abbrev pub field_written : Spelling → Write → Field → List Value → Option Data × List Value
field_written spell write field values = shape_written spell write (is_some field.default) field.shape values

-- A member at its place among members whose names ascend by their bytes, as those of a table of `toml` do; it stands in the place of one of its
-- name.
abbrev pub put_member : List ℕ → Data → Members → Members
put_member name node no_members = member name node no_members
put_member name node (member other there members) =
    match_ordering (slice_cmp nat_cmp name other) (member name node (member other there members)) (member other node members)
    (member other there (put_member name node members))

abbrev pub with_member : List ℕ → Option Data → Members → Members
with_member name None members = members
with_member name (Some node) members = put_member name node members

-- what is written at keys, one after the other, is put among the members that were made so far
abbrev pub fields_written : Spelling → Write → List Field → List Value → Members → Members × List Value
fields_written spell write [] values made = (made, values)
fields_written spell write (field ∷ fields) values made =
    let here = field_written spell write field values in
    fields_written spell write fields here.1 (with_member field.name here.0 made)

-- a table, whose tables inside one another are no more than a depth
abbrev pub written_to : Spelling → List (List Field) → ℕ → Write
written_to spell schema zero number values = (no_members, values)
written_to spell schema (suc depth) number values =
    fields_written spell (written_to spell schema depth) (fields_at schema number) values no_members

-- The document that is written of values. A key stands in it unless it is left out: one of a table that isn't there, of no value, or of an
-- empty array where it may be left out.
abbrev pub written : Spelling → List (List Field) → List Value → Members
written spell schema values = (written_to spell schema (length schema) 0 values).0

-- A schema from whose values a document can be written: in each table the names differ, in each key the words differ and numbers are
-- integers of TOML, and what stands where a key is left out is of the key's kind, or of none that is written; an empty one for a table and an
-- array.

abbrev pub words_differ : List (List ℕ) → Bool
words_differ [] = true
words_differ (word ∷ words) = not (list_any (bytes_eq word) words) && words_differ words

abbrev pub names_differ : List Field → Bool
names_differ [] = true
names_differ (field ∷ fields) = not (is_known fields field.name) && names_differ fields

abbrev pub IsSoundForm : Form → Type 0
IsSoundForm (forms.Word words) = words_differ words ≡ true
IsSoundForm (forms.Number least most) = most ≤ greatest_integer
IsSoundForm form = Unit {0}

abbrev pub IsSoundDefault : Spelling → Shape → Value → Type 0
IsSoundDefault spell (forms.One form) default = FitsForm form default ⊎ (node_of spell form default ≡ None)
IsSoundDefault spell shape default = default ≡ Value.Count 0

abbrev pub IsSoundShape : Shape → Type 0
IsSoundShape (forms.One form) = IsSoundForm form
IsSoundShape (forms.Values form) = IsSoundForm form
IsSoundShape shape = Unit {0}

abbrev pub AreSoundFields : Spelling → List Field → Type 0
AreSoundFields spell [] = Unit {0}
AreSoundFields spell (field ∷ fields) =
    IsSoundShape field.shape × ((default : Value) → field.default ≡ Some default → IsSoundDefault spell field.shape default) × AreSoundFields spell fields

abbrev pub IsSound : Spelling → List (List Field) → Type 0
IsSound spell [] = Unit {0}
IsSound spell (fields ∷ schema) = (names_differ fields ≡ true) × AreSoundFields spell fields × IsSound spell schema

-- the walk of the document that is written of values gives them again
abbrev pub WrittenValuesAreWalked : Type 0
WrittenValuesAreWalked = (spell : Spelling) (schema : List (List Field)) (values : List Value) → IsReadBack spell → IsSound spell schema → Fits schema values
    → walked schema (written spell schema values) ≡ Ok values

-- the texts among values are UTF-8, as all strings of TOML

abbrev pub IsTextValue : Value → Type 0
IsTextValue (Value.Text text) = IsUtf8 text
IsTextValue value = Unit {0}

abbrev pub AreTexts : List Value → Type 0
AreTexts values = AllByRecursion IsTextValue values

-- tables and arrays in a document that is written are inside one another at most twice as deep as the schema has tables
abbrev pub WrittenDocumentsAreShallow : Type 0
WrittenDocumentsAreShallow = (spell : Spelling) (schema : List (List Field)) (values : List Value)
    → members_depth (written spell schema values) ≤ 2 * length schema

-- no date-time stands in a document that is written, so each one that does is valid
abbrev pub WrittenDocumentsHaveValidDates : Type 0
WrittenDocumentsHaveValidDates = (spell : Spelling) (schema : List (List Field)) (values : List Value)
    → members_have_valid_dates (written spell schema values) ≡ true
