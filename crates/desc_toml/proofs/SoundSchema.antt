-- A document can be written of values by the schema, as a test that computes says.
use Rattle.std.proofs.Common.{◌≡◌, inl, inr, ℕ, Bool, true, false, ◌&&◌, ◌==◌, List, [], ◌∷◌, Option, Some, None, nat_le, refl, subst, ap}
use Rattle.std.specs.List.{list_all}
use Rattle.std.proofs.lemmas.Bool.{and_parts, leb-true, eqb-true}
use Rattle.desc_schema.specs.declared.value.Value.{Value}
use Rattle.desc_schema.specs.Form.{Form, Shape, Field}
use Rattle.desc_schema.specs.Form as forms
use Rattle.desc_schema.specs.Written.{Spelling, greatest_integer, node_of, words_differ, names_differ, IsSoundForm, IsSoundShape, IsSoundDefault}
use Rattle.desc_schema.specs.Written.{AreSoundFields, IsSound}
use Rattle.desc_toml.specs.Keys.{schema}

-- the words of a kind differ, and its numbers are integers of TOML

is_sound_form : Form → Bool
is_sound_form (forms.Word words) = words_differ words
is_sound_form (forms.Number least most) = nat_le most greatest_integer
is_sound_form form = true

is_sound_shape : Shape → Bool
is_sound_shape (forms.One form) = is_sound_form form
is_sound_shape (forms.Values form) = is_sound_form form
is_sound_shape shape = true

-- what stands where a key is left out is of the key's kind, or nothing; no table and an empty array

is_sound_one : Form → Value → Bool
is_sound_one form Value.Nothing = true
is_sound_one forms.Text (Value.Text text) = true
is_sound_one (forms.Number least most) (Value.Number n) = nat_le least n && nat_le n most
is_sound_one forms.Flag (Value.Flag flag) = true
is_sound_one form value = false

is_sound_count : Value → Bool
is_sound_count (Value.Count n) = n == 0
is_sound_count value = false

is_sound_value : Shape → Value → Bool
is_sound_value (forms.One form) value = is_sound_one form value
is_sound_value shape value = is_sound_count value

is_sound_default : Shape → Option Value → Bool
is_sound_default shape None = true
is_sound_default shape (Some value) = is_sound_value shape value

is_sound_field : Field → Bool
is_sound_field field = is_sound_shape field.shape && is_sound_default field.shape field.default

is_sound_table : List Field → Bool
is_sound_table fields = names_differ fields && list_all is_sound_field fields

-- so they are sound

sound_form : (form : Form) → is_sound_form form ≡ true → IsSoundForm form
unfolding is_sound_form
sound_form (forms.Word words) is = is
sound_form (forms.Number least most) is = leb-true most greatest_integer is
sound_form form is = tt

sound_shape : (shape : Shape) → is_sound_shape shape ≡ true → IsSoundShape shape
unfolding is_sound_shape
sound_shape (forms.One form) is = sound_form form is
sound_shape (forms.Values form) is = sound_form form is
sound_shape shape is = tt

none_written : (spell : Spelling) (form : Form) → node_of spell form Value.Nothing ≡ None
none_written spell forms.Text = refl
none_written spell (forms.Number least most) = refl
none_written spell forms.Flag = refl
none_written spell forms.Uuid = refl
none_written spell (forms.Word words) = refl

sound_one : (spell : Spelling) (form : Form) (value : Value) → is_sound_one form value ≡ true → IsSoundDefault spell (forms.One form) value
unfolding is_sound_one
sound_one spell form Value.Nothing is = inr (none_written spell form)
sound_one spell forms.Text (Value.Text text) is = inl (text, refl)
sound_one spell (forms.Number least most) (Value.Number n) is =
    let both = and_parts (nat_le least n) (nat_le n most) is in
    inl (n, refl, leb-true least n both.0, leb-true n most both.1)
sound_one spell forms.Flag (Value.Flag flag) is = inl (flag, refl)
sound_one spell form value is = absurd (cc)

sound_count : (value : Value) → is_sound_count value ≡ true → value ≡ Value.Count 0
unfolding is_sound_count
sound_count (Value.Count n) is = ap (λ (number : ℕ). Value.Count number) (eqb-true n 0 is)
sound_count value is = absurd (cc)

sound_value : (spell : Spelling) (shape : Shape) (value : Value) → is_sound_value shape value ≡ true → IsSoundDefault spell shape value
unfolding is_sound_value
sound_value spell (forms.One form) value is = sound_one spell form value is
sound_value spell shape value is = sound_count value is

sound_default : (spell : Spelling) (shape : Shape) (given : Option Value) → is_sound_default shape given ≡ true → (default : Value)
    → given ≡ Some default → IsSoundDefault spell shape default
unfolding is_sound_default
sound_default spell shape None is default has = absurd (cc)
sound_default spell shape (Some value) is default has = let same : value ≡ default = cc in
    subst (IsSoundDefault spell shape) same (sound_value spell shape value is)

sound_fields : (spell : Spelling) (fields : List Field) → list_all is_sound_field fields ≡ true → AreSoundFields spell fields
unfolding is_sound_field
sound_fields spell [] all = tt
sound_fields spell (field ∷ fields) all =
    let both = and_parts (is_sound_field field) (list_all is_sound_field fields) all in
    let here = and_parts (is_sound_shape field.shape) (is_sound_default field.shape field.default) both.0 in (
      sound_shape field.shape here.0,
      sound_default spell field.shape field.default here.1,
      sound_fields spell fields both.1,
    )

sound_tables : (spell : Spelling) (tables : List (List Field)) → list_all is_sound_table tables ≡ true → IsSound spell tables
unfolding is_sound_table
sound_tables spell [] all = tt
sound_tables spell (fields ∷ tables) all =
    let both = and_parts (is_sound_table fields) (list_all is_sound_table tables) all in
    let here = and_parts (names_differ fields) (list_all is_sound_field fields) both.0 in
    (here.0, sound_fields spell fields here.1, sound_tables spell tables both.1)

pub sound_schema : (spell : Spelling) → IsSound spell schema
unfolding is_sound_table is_sound_field is_sound_shape is_sound_form is_sound_default is_sound_value is_sound_one is_sound_count
sound_schema spell = sound_tables spell schema refl
