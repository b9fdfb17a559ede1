-- Which values a schema's tables have: in the schema's order, each of its kind, or what stands where its key is left out.
use Rattle.std.specs.Prelude.{◌≡◌, ◌⊎◌, ℕ, zero, suc, ◌<◌, ◌≤◌, List, [], ◌∷◌, ◌++◌, length, Bool, Some, Ok}
use Rattle.std.specs.Int.{w128, from_be_bytes}
use Rattle.toml.specs.Data.{Members}
use Rattle.uuid.specs.Text.{parsed}
use Rattle.desc_schema.specs.declared.value.Value.{Value}
use Rattle.desc_schema.specs.Form.{Form, Shape, Field, fields_at}
use Rattle.desc_schema.specs.Form as forms
use Rattle.desc_schema.specs.Walk.{walked}

-- a single value is of its kind; a UUID is that of some text
abbrev pub FitsForm : Form → Value → Type 0
FitsForm forms.Text value = (text : List ℕ) × (value ≡ Value.Text text)
FitsForm (forms.Number least most) value = (n : ℕ) × (value ≡ Value.Number n) × (least ≤ n) × (n ≤ most)
FitsForm forms.Flag value = (flag : Bool) × (value ≡ Value.Flag flag)
FitsForm forms.Uuid value = (text bytes : List ℕ) × (parsed text ≡ Some bytes) × (value ≡ Value.Uuid (from_be_bytes w128 bytes))
FitsForm (forms.Word words) value = (n : ℕ) × (value ≡ Value.Word n) × (n < length words)

-- the values are one, of its kind
abbrev pub IsOne : Form → List Value → Type 0
IsOne form values = (value : Value) × (values ≡ value ∷ []) × FitsForm form value

-- the values are so many parts, one after the other, and each part is as it should be
abbrev pub AreParts : (List Value → Type 0) → ℕ → List Value → Type 0
AreParts IsPart zero values = values ≡ []
AreParts IsPart (suc n) values = (part : List Value) × (rest : List Value) × (values ≡ part ++ rest) × IsPart part × AreParts IsPart n rest

-- the values are a count, and then those of so many parts
abbrev pub IsCounted : (List Value → Type 0) → List Value → Type 0
IsCounted IsPart values = (n : ℕ) × (rest : List Value) × (values ≡ Value.Count n ∷ rest) × AreParts IsPart n rest

-- the values are those of a kind; `Inside` says which are those of the table of a number
abbrev pub FitsShape : (ℕ → List Value → Type 0) → Shape → List Value → Type 0
FitsShape Inside (forms.One form) values = IsOne form values
FitsShape Inside (forms.Table table) values = (rest : List Value) × (values ≡ Value.Count 1 ∷ rest) × Inside table rest
FitsShape Inside (forms.Tables table) values = IsCounted (Inside table) values
FitsShape Inside (forms.Values form) values = IsCounted (IsOne form) values

-- the values at a key: what stands where it is left out, or those of its kind
abbrev pub FitsField : (ℕ → List Value → Type 0) → Field → List Value → Type 0
FitsField Inside field values = ((default : Value) × (field.default ≡ Some default) × (values ≡ default ∷ [])) ⊎ FitsShape Inside field.shape values

-- the values at the keys of a table, in their order
abbrev pub FitsFields : (ℕ → List Value → Type 0) → List Field → List Value → Type 0
FitsFields Inside [] values = values ≡ []
FitsFields Inside (field ∷ fields) values =
    (part : List Value) × (rest : List Value) × (values ≡ part ++ rest) × FitsField Inside field part × FitsFields Inside fields rest

-- the values of the table of a number, whose tables inside one another are no more than a depth
abbrev pub FitsTable : List (List Field) → ℕ → ℕ → List Value → Type 0
FitsTable schema zero table values = values ≡ []
FitsTable schema (suc depth) table values = FitsFields (FitsTable schema depth) (fields_at schema table) values

abbrev pub Fits : List (List Field) → List Value → Type 0
Fits schema values = FitsTable schema (length schema) 0 values

-- the values that a walk gives fit the schema
abbrev pub WalkedValuesFit : Type 0
WalkedValuesFit = (schema : List (List Field)) (root : Members) (values : List Value) → walked schema root ≡ Ok values → Fits schema values
