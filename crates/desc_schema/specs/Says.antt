-- What a document's tables say, key by key, in the schema's order. A key that is left out stands for its default.
use Rattle.std.specs.Prelude.{◌≡◌, ◌↔◌, ℕ, zero, suc, pos, ◌≤◌, Bool, List, [], ◌∷◌, ◌++◌, length, map, Contains, Some, MatchOption, Ok}
use Rattle.std.specs.Int.{w128, from_be_bytes}
use Rattle.toml.specs.Data.{Data, string, integer, boolean, array, table, Items, no_items, item, Members, no_members, member, get_member}
use Rattle.uuid.specs.Text.{parsed}
use Rattle.desc_schema.specs.declared.value.Value.{Value}
use Rattle.desc_schema.specs.Form.{Form, Shape, Field, fields_at}
use Rattle.desc_schema.specs.Form as forms
use Rattle.desc_schema.specs.Walk.{count_of, walked}

-- the table has no keys but these
abbrev pub HasOnlyKeys : List (List ℕ) → Members → Type 0
HasOnlyKeys keys no_members = Unit {0}
HasOnlyKeys keys (member key node others) = Contains keys key × HasOnlyKeys keys others

-- the word at this place, counted from 0, is the text, and none before it is
abbrev pub IsFirst : List (List ℕ) → List ℕ → ℕ → Type 0
IsFirst [] text n = ⊥
IsFirst (word ∷ words) text zero = word ≡ text
IsFirst (word ∷ words) text (suc n) = ¬ (word ≡ text) × IsFirst words text n

-- A single value says what it is: a string; an integer from the least to the most; a boolean; a string that is the text of a UUID
-- (RFC 9562, section 4), as the number of its 16 bytes, the first the highest; a string that is one of the words, as that word's place.
abbrev pub SaysValue : Form → Data → Value → Type 0
SaysValue forms.Text node found = (text : List ℕ) × (node ≡ string text) × (found ≡ Value.Text text)
SaysValue (forms.Number least most) node found = (n : ℕ) × (node ≡ integer (pos n)) × (least ≤ n) × (n ≤ most) × (found ≡ Value.Number n)
SaysValue forms.Flag node found = (flag : Bool) × (node ≡ boolean flag) × (found ≡ Value.Flag flag)
SaysValue forms.Uuid node found =
    (text bytes : List ℕ) × (node ≡ string text) × (parsed text ≡ Some bytes) × (found ≡ Value.Uuid (from_be_bytes w128 bytes))
SaysValue (forms.Word words) node found = (text : List ℕ) × (n : ℕ) × (node ≡ string text) × IsFirst words text n × (found ≡ Value.Word n)

abbrev pub SaysOne : Form → Data → List Value → Type 0
SaysOne form node values = (found : Value) × SaysValue form node found × (values ≡ found ∷ [])

-- a table; `Inside` holds of its keys and what they say
abbrev pub SaysTable : (Members → List Value → Type 0) → Data → List Value → Type 0
SaysTable Inside node values = (inside : Members) × (node ≡ table inside) × Inside inside values

-- this count, and then values of which something holds
abbrev pub AreCounted : ℕ → (List Value → Type 0) → List Value → Type 0
AreCounted n Follow values = (rest : List Value) × (values ≡ Value.Count n ∷ rest) × Follow rest

-- values of which the first holds, and then values of which the second holds
abbrev pub AreInTurn : (List Value → Type 0) → (List Value → Type 0) → List Value → Type 0
AreInTurn First Second values = (part rest : List Value) × (values ≡ part ++ rest) × First part × Second rest

-- what the elements of an array say, one after the other
abbrev pub SayEach : (Data → List Value → Type 0) → Items → List Value → Type 0
SayEach Says no_items values = values ≡ []
SayEach Says (item node others) values = AreInTurn (Says node) (SayEach Says others) values

-- What stands at a key: one value; a table, which counts as one; how many tables or values an array has, and each of them. `Inside`
-- holds of the table of a number and what it says.
abbrev pub SaysShape : (ℕ → Members → List Value → Type 0) → Shape → Data → List Value → Type 0
SaysShape Inside (forms.One form) node values = SaysOne form node values
SaysShape Inside (forms.Table n) node values = (inside : Members) × (node ≡ table inside) × AreCounted 1 (Inside n inside) values
SaysShape Inside (forms.Tables n) node values =
    (inside : Items) × (node ≡ array inside) × AreCounted (count_of inside) (SayEach (SaysTable (Inside n)) inside) values
SaysShape Inside (forms.Values form) node values =
    (inside : Items) × (node ≡ array inside) × AreCounted (count_of inside) (SayEach (SaysOne form) inside) values

-- a key: its default where it is left out, which it may be only where it has one
abbrev pub SaysField : (ℕ → Members → List Value → Type 0) → Field → Members → List Value → Type 0
SaysField Inside field entries values =
    MatchOption (get_member field.name entries) ((default : Value) × (field.default ≡ Some default) × (values ≡ default ∷ []))
    (λ node. SaysShape Inside field.shape node values)

-- the keys of a table, one after the other
abbrev pub SayFields : (ℕ → Members → List Value → Type 0) → List Field → Members → List Value → Type 0
SayFields Inside [] entries values = values ≡ []
SayFields Inside (field ∷ fields) entries values = AreInTurn (SaysField Inside field entries) (SayFields Inside fields entries) values

-- the table of a number, which has no other keys, and whose tables inside one another are no more than a depth
abbrev pub SaysTo : List (List Field) → ℕ → ℕ → Members → List Value → Type 0
SaysTo schema zero n entries values = values ≡ []
SaysTo schema (suc depth) n entries values =
    HasOnlyKeys (map (λ (field : Field). field.name) (fields_at schema n)) entries × SayFields (SaysTo schema depth) (fields_at schema n) entries values

-- the document: its root is table 0
abbrev pub Says : List (List Field) → Members → List Value → Type 0
Says schema root values = SaysTo schema (length schema) 0 root values

-- a walk gives exactly the values that the document says
abbrev pub WalkGivesWhatIsSaid : Type 0
WalkGivesWhatIsSaid = (schema : List (List Field)) (root : Members) (values : List Value) → (walked schema root ≡ Ok values) ↔ Says schema root values
