-- A schema on plain lists: for each table its keys in order, each with its number, its name, its kind, and what stands where it is left
-- out.
use Rattle.std.specs.Prelude.{ℕ, zero, suc, List, [], ◌∷◌, map, Option, Some, None}
use Rattle.std.specs.Borrow.{Bor}
use Rattle.desc_schema.specs.declared.schema.Key.{Key}
use Rattle.desc_schema.specs.declared.schema.TableSchema.{TableSchema}
use Rattle.desc_schema.specs.declared.schema.Kind.{Kind}
use Rattle.desc_schema.specs.declared.schema.Kind.TheVariants as kinds
use Rattle.desc_schema.specs.declared.schema.Scalar.{Scalar}
use Rattle.desc_schema.specs.declared.schema.Scalar.TheVariants as scalars
use Rattle.desc_schema.specs.declared.schema.Otherwise.{Otherwise}
use Rattle.desc_schema.specs.declared.schema.Otherwise.TheVariants as others
use Rattle.desc_schema.specs.declared.value.Value.{Value}

-- what a single value is to be: a text, an integer from the least to the most, a boolean, the text of a UUID, one of these words
pub data Form : Type 0 where
  Text : Form
  Number : ℕ → ℕ → Form
  Flag : Form
  Uuid : Form
  Word : List (List ℕ) → Form

-- what stands at a key: a single value, a table of this number, an array of such tables, an array of single values
pub data Shape : Type 0 where
  One : Form → Shape
  Table : ℕ → Shape
  Tables : ℕ → Shape
  Values : Form → Shape

-- a key of a table; faults tell it by its number, and its default is None where the key must be there
pub record Field : Type 0 where
  pub number : ℕ
  pub name : List ℕ
  pub shape : Shape
  pub default : Option Value

-- what the code's schema says, without where its texts lie in memory

abbrev pub texts_of : List (Bor (List ℕ)) → List (List ℕ)
texts_of words = map (λ word. word.now) words

abbrev pub form_of : Scalar → Form
form_of scalars.Text = Text
form_of (scalars.Number least most) = Number least most
form_of scalars.Flag = Flag
form_of scalars.Uuid = Uuid
form_of (scalars.Word words) = Word (texts_of words.now)

abbrev pub shape_of : Kind → Shape
shape_of (kinds.One scalar) = One (form_of scalar)
shape_of (kinds.Table table) = Table table
shape_of (kinds.Tables table) = Tables table
shape_of (kinds.Values scalar) = Values (form_of scalar)

abbrev pub default_of : Otherwise → Option Value
default_of others.Required = None
default_of (others.Text text) = Some (Value.Text text.now)
default_of (others.Number n) = Some (Value.Number n)
default_of (others.Flag flag) = Some (Value.Flag flag)
default_of (others.Word n) = Some (Value.Word n)
default_of others.Nothing = Some Value.Nothing
default_of others.Empty = Some (Value.Count 0)

abbrev pub field_of : Key → Field
field_of key = record { number = key.number; name = key.name.now; shape = shape_of key.kind; default = default_of key.otherwise }

abbrev pub fields_of : List Key → List Field
fields_of keys = map field_of keys

abbrev pub schema_of : List TableSchema → List (List Field)
schema_of schema = map (λ table. fields_of table.keys.now) schema

-- the keys of a table, by its number; a table that isn't the schema's has none
abbrev pub fields_at : List (List Field) → ℕ → List Field
fields_at [] table = []
fields_at (fields ∷ schema) zero = fields
fields_at (fields ∷ schema) (suc table) = fields_at schema table
