-- The names of keys by their numbers, which faults tell.
use Rattle.std.specs.Prelude.{◌≡◌, ℕ, ◌+◌, nat_le, ◌==◌, Bool, true, ◌&&◌, List, [], ◌∷◌, find, Contains}
use Rattle.std.specs.List.{list_all}
use Rattle.std.specs.Option.{option_map_or}
use Rattle.desc_schema.specs.Form.{Field, fields_at}

-- the name of the key of a number, among the keys of a table; a number that is no key's has none
unfoldable pub name_of : List Field → ℕ → List ℕ
name_of fields number = option_map_or (λ (field : Field). field.name) (find (λ (field : Field). field.number == number) fields) []

-- the same of the table of a number
abbrev pub key_name : List (List Field) → ℕ → ℕ → List ℕ
key_name schema table number = name_of (fields_at schema table) number

-- the numbers of keys ascend, and none is below the least
abbrev pub numbers_ascend : ℕ → List Field → Bool
numbers_ascend least [] = true
numbers_ascend least (field ∷ fields) = nat_le least field.number && numbers_ascend (field.number + 1) fields

-- in each table the numbers of the keys ascend, so that no two of them have one number
abbrev pub NumbersAscend : List (List Field) → Type 0
NumbersAscend schema = list_all (numbers_ascend 0) schema ≡ true

-- each key of a table is named by its number
abbrev pub NumbersAreNames : List (List Field) → Type 0
NumbersAreNames schema = (table : ℕ) (field : Field) → Contains (fields_at schema table) field → key_name schema table field.number ≡ field.name
