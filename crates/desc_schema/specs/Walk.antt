-- The values of a TOML table (TOML 1.1, "Table") by its schema, in the schema's order, or the first fault.
use Rattle.std.specs.Prelude.{◌⊎◌, Bool, false, true, ◌≡◌, ℕ, zero, suc, ◌+◌, List, [], ◌∷◌, ◌++◌, length, replicate, get_or, slice_set, nat_lt, Option, Some}
use Rattle.std.specs.Prelude.{None, Result, Ok, Err, if◌then◌else◌}
use Rattle.std.specs.Cmp.Lexicographic.{slice_cmp}
use Rattle.std.specs.List.{list_any}
use Rattle.std.specs.Ordering.{nat_cmp, is_le}
use Rattle.std.specs.Str.{bytes_eq}
use Rattle.vt_outside.specs.Readings.{◌into◌}
use Rattle.std.specs.Option.{ok_or}
use Rattle.toml.specs.Data.{Data, Members, no_members, member, Items, no_items, item, get_member, as_table, as_array}
use Rattle.desc_schema.specs.declared.value.Value.{Value}
use Rattle.desc_schema.specs.declared.fault.Place.{Place}
use Rattle.desc_schema.specs.declared.fault.KeyPlace.{KeyPlace}
use Rattle.desc_schema.specs.declared.fault.WalkFault.{WalkFault}
use Rattle.desc_schema.specs.declared.fault.WalkFault.TheVariants.{UnknownKey, WrongKind}
use Rattle.desc_schema.specs.Form.{Form, Shape, Field, fields_at}
use Rattle.desc_schema.specs.Form as forms
use Rattle.desc_schema.specs.Faults.{key_at, alone}
use Rattle.desc_schema.specs.Single.{value_of, otherwise_of}

-- Positions: for each number of a table, how many elements of its arrays were met before. So a position counts through all the
-- tables that hold such arrays, in their order. It stays at the last value of a u32.

abbrev pub next_position : ℕ → ℕ
next_position n = if nat_lt n 0xFFFFFFFF then n + 1 else n

abbrev pub position : ℕ → List ℕ → ℕ
position table positions = get_or positions table 0

abbrev pub advanced : ℕ → List ℕ → List ℕ
advanced table positions = slice_set positions table (next_position (position table positions))

-- The values of a part of the document, and the positions after it; or the first fault. It goes by the positions before it.
abbrev pub Part : Type 0
Part = Result (List Value × List ℕ) WalkFault

abbrev pub Walk : Type 0
Walk = List ℕ → Part

-- how a table at a place is walked
abbrev pub Inner : Type 0
Inner = Place → Members → Walk

-- values, and those that are given after them
abbrev pub after : List Value → Part → Part
after front given = given into λ part. Ok (front ++ part.0, part.1)

-- two parts, one after the other
abbrev pub joined : Part → Walk → Part
joined given others = given into λ part. after part.0 (others part.1)

-- one value alone
abbrev pub one : Result Value WalkFault → Walk
one given positions = given into λ found. Ok (found ∷ [], positions)

-- how many nodes an array has
abbrev pub count_of : Items → ℕ
count_of no_items = 0
count_of (item node nodes) = suc (count_of nodes)

-- an element of an array of tables
abbrev pub element : Inner → KeyPlace → ℕ → Data → Walk
element inner at table node positions =
    ok_or (as_table node) (WrongKind at) into λ inside. inner (record { table = table; index = position table positions }) inside (advanced table positions)

-- the elements of an array of tables: each one is tested and walked whole before the next
unfoldable pub elements : Inner → KeyPlace → ℕ → Items → Walk
elements inner at table no_items positions = Ok ([], positions)
elements inner at table (item node nodes) positions = joined (element inner at table node positions) (elements inner at table nodes)

-- the values of an array of single values
unfoldable pub singles : KeyPlace → Form → Items → Walk
singles at form no_items positions = Ok ([], positions)
singles at form (item node nodes) positions = joined (one (value_of at form node) positions) (singles at form nodes)

-- what stands at a key: of a table and of an array first how many there are, a table being one
abbrev pub shaped : Inner → KeyPlace → Shape → Data → Walk
shaped inner at (forms.One form) node positions = one (value_of at form node) positions
shaped inner at (forms.Table table) node positions =
    ok_or (as_table node) (WrongKind at) into λ inside. after (Value.Count 1 ∷ []) (inner (alone table) inside positions)
shaped inner at (forms.Tables table) node positions =
    ok_or (as_array node) (WrongKind at) into λ nodes. after (Value.Count (count_of nodes) ∷ []) (elements inner at table nodes positions)
shaped inner at (forms.Values form) node positions =
    ok_or (as_array node) (WrongKind at) into λ nodes. after (Value.Count (count_of nodes) ∷ []) (singles at form nodes positions)

abbrev pub found_or : Inner → KeyPlace → Field → Option Data → Walk
found_or inner at field None positions = one (otherwise_of at field.default) positions
found_or inner at field (Some node) positions = shaped inner at field.shape node positions

-- the values at a key of a table
abbrev pub at_field : Inner → Place → Field → Members → Walk
at_field inner place field table = found_or inner (key_at place field.number) field (get_member field.name table)

-- the values at the keys
unfoldable pub at_fields : Inner → Place → List Field → Members → Walk
at_fields inner place [] table positions = Ok ([], positions)
at_fields inner place (field ∷ fields) table positions = joined (at_field inner place field table positions) (at_fields inner place fields table)

abbrev pub is_known : List Field → List ℕ → Bool
is_known fields name = list_any (λ field. bytes_eq field.name name) fields

-- the lesser of names, by their bytes
abbrev pub lesser : List ℕ → Option (List ℕ) → List ℕ
lesser name None = name
lesser name (Some other) = if is_le (slice_cmp nat_cmp name other) then name else other

-- the least key of the table that isn't the schema's, if there is one
abbrev pub least_unknown : List Field → Members → Option (List ℕ)
least_unknown fields no_members = None
least_unknown fields (member name node others) =
    if is_known fields name then least_unknown fields others else Some (lesser name (least_unknown fields others))

abbrev pub known_or : Place → Option (List ℕ) → Result (Unit {0}) WalkFault
known_or place None = Ok tt
known_or place (Some name) = Err (UnknownKey place name)

-- each key of the table is the schema's; else the least one that isn't
abbrev pub all_known : Place → List Field → Members → Result (Unit {0}) WalkFault
all_known place fields table = known_or place (least_unknown fields table)

-- each key of the table that isn't the schema's is this one, or comes after it by its bytes
abbrev pub IsAtMost : List Field → List ℕ → Members → Type 0
IsAtMost fields name no_members = Unit {0}
IsAtMost fields name (member other node others) = (is_known fields other ≡ false → is_le (slice_cmp nat_cmp name other) ≡ true) × IsAtMost fields name others

-- this key is one of the table's
abbrev pub IsKey : List ℕ → Members → Type 0
IsKey name no_members = ⊥
IsKey name (member other node others) = (name ≡ other) ⊎ IsKey name others

-- this key is the least of the table's that aren't the schema's
abbrev pub IsLeastUnknown : List Field → List ℕ → Members → Type 0
IsLeastUnknown fields name table = IsKey name table × (is_known fields name ≡ false) × IsAtMost fields name table

-- a table whose tables inside one another are no more than a depth
unfoldable pub table_walked : List (List Field) → ℕ → Inner
table_walked schema zero place table positions = Ok ([], positions)
table_walked schema (suc depth) place table positions =
    all_known place (fields_at schema place.table) table
    into λ known. at_fields (table_walked schema depth) place (fields_at schema place.table) table positions

-- The walk of a document: its root is table 0. Where no table stands inside itself, no more tables are inside one another than the
-- schema has.
abbrev pub walked : List (List Field) → Members → Result (List Value) WalkFault
walked schema root = table_walked schema (length schema) (alone 0) root (replicate (length schema) 0) into λ part. Ok part.0
