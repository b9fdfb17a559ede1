-- A command's words as data, on plain lists: its name, what its operands are, its options, and which of these exclude each other or need
-- another. A word is the list of its bytes.
use Rattle.std.specs.Prelude.{ℕ, List, Option, map}
use Rattle.std.specs.Borrow.{Bor}
use Rattle.word_schema.specs.declared.value.Value.{Value}
use Rattle.word_schema.specs.declared.schema.Form.{Form as CodeForm}
use Rattle.word_schema.specs.declared.schema.Form.TheVariants as code_form
use Rattle.word_schema.specs.declared.schema.Kind.{Kind as CodeKind}
use Rattle.word_schema.specs.declared.schema.Kind.TheVariants as code_kind
use Rattle.word_schema.specs.declared.schema.OperandSchema.{OperandSchema}
use Rattle.word_schema.specs.declared.schema.OptionSchema.{OptionSchema}
use Rattle.word_schema.specs.declared.schema.Exclusive.{Exclusive}
use Rattle.word_schema.specs.declared.schema.Need.{Need}
use Rattle.word_schema.specs.declared.schema.CommandSchema.{CommandSchema}

-- what a word is to be that says a value: the two digits of a byte, a number from the least to the most, one of these words
pub data Form : Type 0 where
  Byte : Form
  Number : ℕ → ℕ → Form
  Word : List (List ℕ) → Form

-- how an option is given: by its name alone, or with a value, which is the next word
pub data Kind : Type 0 where
  Flag : Kind
  Valued : Form → Kind

-- an option; where it isn't given it says its default, and one without a default must be given
pub record Row : Type 0 where
  pub name : List ℕ
  pub kind : Kind
  pub default : Option Value

-- two options, by their names: they exclude each other, or the one needs the other
pub record Pair : Type 0 where
  pub one : List ℕ
  pub other : List ℕ

-- a command; of two options that exclude each other at most one may be given, and one that needs another is given only with it
pub record Schema : Type 0 where
  pub name : List ℕ
  pub operands : List Form
  pub options : List Row
  pub exclusive : List Pair
  pub needs : List Pair

-- what the code's schema says, without where its texts lie in memory, and without the texts of its help

abbrev pub texts_of : List (Bor (List ℕ)) → List (List ℕ)
texts_of words = map (λ word. word.now) words

abbrev pub form_of : CodeForm → Form
form_of code_form.Byte = Byte
form_of (code_form.Number least most) = Number least most
form_of (code_form.Word words) = Word (texts_of words.now)

abbrev pub kind_of : CodeKind → Kind
kind_of code_kind.Flag = Flag
kind_of (code_kind.Valued form) = Valued (form_of form)

abbrev pub row_of : OptionSchema → Row
row_of option = record { name = option.name.now; kind = kind_of option.kind; default = option.default }

abbrev pub rows_of : List OptionSchema → List Row
rows_of options = map row_of options

abbrev pub forms_of : List OperandSchema → List Form
forms_of operands = map (λ operand. form_of operand.form) operands

abbrev pub pair_of : Exclusive → Pair
pair_of exclusive = record { one = exclusive.one.now; other = exclusive.other.now }

abbrev pub pairs_of : List Exclusive → List Pair
pairs_of exclusive = map pair_of exclusive

abbrev pub need_of : Need → Pair
need_of need = record { one = need.one.now; other = need.other.now }

abbrev pub needs_of : List Need → List Pair
needs_of needs = map need_of needs

abbrev pub schema_of : CommandSchema → Schema
schema_of command = record {
  name = command.name.now;
  operands = forms_of command.operands.now;
  options = rows_of command.options.now;
  exclusive = pairs_of command.exclusive.now;
  needs = needs_of command.needs.now;
}
