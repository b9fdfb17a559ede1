-- The values that a document says fit the schema, part by part; and so do those that a walk gives.
use Rattle.std.proofs.Common.{◌≡◌, ℕ, zero, suc, ◌<◌, List, [], ◌∷◌, length, Option, Some, None, MatchOption, Ok, inl, inr, arith}
use Rattle.toml.specs.Data.{Data, Members, Items, no_items, item, get_member}
use Rattle.desc_schema.specs.declared.value.Value.{Value}
use Rattle.desc_schema.specs.Form.{Form, Shape, Field, fields_at}
use Rattle.desc_schema.specs.Form as forms
use Rattle.desc_schema.specs.Walk.{walked, count_of}
use Rattle.desc_schema.specs.Says.{IsFirst, SaysValue, SaysOne, SaysTable, SayEach, SaysShape, SayFields, SaysTo}
use Rattle.desc_schema.specs.Fits.{FitsForm, IsOne, AreParts, FitsShape, FitsField, FitsFields, FitsTable, Fits}
use Rattle.desc_schema.proofs.Saying.{walked_says}

first_within : (words : List (List ℕ)) (text : List ℕ) (n : ℕ) → IsFirst words text n → n < length words
first_within [] text n is = absurd is
first_within (word ∷ words) text zero is = omega arith
first_within (word ∷ words) text (suc n) is = omega (arith, first_within words text n is.1)

value_fits : (form : Form) (node : Data) (found : Value) → SaysValue form node found → FitsForm form found
value_fits forms.Text node found (text, _, is) = (text, is)
value_fits (forms.Number least most) node found (n, _, low, high, is) = (n, is, low, high)
value_fits forms.Flag node found (flag, _, is) = (flag, is)
value_fits forms.Uuid node found (text, bytes, _, read, is) = (text, bytes, read, is)
value_fits (forms.Word words) node found (text, n, _, first, is) = (n, is, first_within words text n first)

one_fits : (form : Form) (node : Data) (values : List Value) → SaysOne form node values → IsOne form values
one_fits form node values (found, says, is) = (found, is, value_fits form node found says)

each_fits : (Says : Data → List Value → Type 0) (Part : List Value → Type 0) (fit : (node : Data) (values : List Value) → Says node values → Part values)
    (inside : Items) (values : List Value) → SayEach Says inside values → AreParts Part (count_of inside) values
each_fits Says Part fit no_items values is = is
each_fits Says Part fit (item node others) values (part, rest, is, says, say) =
    (part, rest, is, fit node part says, each_fits Says Part fit others rest say)

-- what inner tables say fits
abbrev AllFit : (ℕ → Members → List Value → Type 0) → (ℕ → List Value → Type 0) → Type 0
AllFit Inside Part = (n : ℕ) (entries : Members) (values : List Value) → Inside n entries values → Part n values

shape_fits : (Inside : ℕ → Members → List Value → Type 0) (Part : ℕ → List Value → Type 0) (all : AllFit Inside Part) (shape : Shape) (node : Data)
    (values : List Value) → SaysShape Inside shape node values → FitsShape Part shape values
shape_fits Inside Part all (forms.One form) node values says = one_fits form node values says
shape_fits Inside Part all (forms.Table n) node values (inside, _, (rest, is, says)) = (rest, is, all n inside rest says)
shape_fits Inside Part all (forms.Tables n) node values (inside, _, (rest, is, say)) =
    (count_of inside, rest, is, each_fits (SaysTable (Inside n)) (Part n) (λ _ part says. all n says.0 part says.2) inside rest say)
shape_fits Inside Part all (forms.Values form) node values (inside, _, (rest, is, say)) =
    (count_of inside, rest, is, each_fits (SaysOne form) (IsOne form) (one_fits form) inside rest say)

field_fits : (Inside : ℕ → Members → List Value → Type 0) (Part : ℕ → List Value → Type 0) (all : AllFit Inside Part) (field : Field) (found : Option Data)
    (values : List Value)
    → MatchOption found ((default : Value) × (field.default ≡ Some default) × (values ≡ default ∷ [])) (λ node. SaysShape Inside field.shape node values)
    → FitsField Part field values
field_fits Inside Part all field None values says = inl says
field_fits Inside Part all field (Some node) values says = inr (shape_fits Inside Part all field.shape node values says)

fields_fit : (Inside : ℕ → Members → List Value → Type 0) (Part : ℕ → List Value → Type 0) (all : AllFit Inside Part) (fields : List Field) (entries : Members)
    (values : List Value) → SayFields Inside fields entries values → FitsFields Part fields values
fields_fit Inside Part all [] entries values is = is
fields_fit Inside Part all (field ∷ fields) entries values (part, rest, is, says, say) =
    (part, rest, is, field_fits Inside Part all field (get_member field.name entries) part says, fields_fit Inside Part all fields entries rest say)

tables_fit : (schema : List (List Field)) (depth : ℕ) → AllFit (SaysTo schema depth) (FitsTable schema depth)
tables_fit schema zero n entries values is = is
tables_fit schema (suc depth) n entries values says =
    fields_fit (SaysTo schema depth) (FitsTable schema depth) (tables_fit schema depth) (fields_at schema n) entries values says.1

pub walked_fit : (schema : List (List Field)) (root : Members) (values : List Value) → walked schema root ≡ Ok values → Fits schema values
walked_fit schema root values is = tables_fit schema (length schema) 0 root values ((walked_says schema root values).0 is)
