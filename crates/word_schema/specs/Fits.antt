-- Which values fit a command's rows, and which rows are sound.
use Rattle.std.specs.Prelude.{ℕ, ◌-◌, ◌^◌, Bool, true, false, not, ◌&&◌, List, [], ◌∷◌, length, map, Option, Some, None, nat_le, nat_lt}
use Rattle.std.specs.List.{list_all, list_any}
use Rattle.std.specs.Str.{bytes_eq}
use Rattle.word_schema.specs.declared.value.Value.{Value}
use Rattle.word_schema.specs.declared.value.Value.TheVariants as values
use Rattle.word_schema.specs.Forms.{Form, Kind, Row, Schema}
use Rattle.word_schema.specs.Forms as forms

-- a value is one that a word of this form can say
abbrev pub fits_form : Form → Value → Bool
fits_form forms.Byte (values.Number n) = nat_lt n 256
fits_form forms.Byte (values.Flag flag) = false
fits_form forms.Byte (values.Word n) = false
fits_form (forms.Number least most) (values.Number n) = nat_le least n && nat_le n most
fits_form (forms.Number least most) (values.Flag flag) = false
fits_form (forms.Number least most) (values.Word n) = false
fits_form (forms.Word words) (values.Word n) = nat_lt n (length words)
fits_form (forms.Word words) (values.Flag flag) = false
fits_form (forms.Word words) (values.Number n) = false

-- a flag that may be left out is given or not, and one that must be given is
abbrev pub fits_flag : Option Value → Value → Bool
fits_flag (Some default) (values.Flag flag) = true
fits_flag None (values.Flag flag) = flag
fits_flag default (values.Number n) = false
fits_flag default (values.Word n) = false

-- a value is one that an option of this kind can say
abbrev pub fits_kind : Option Value → Kind → Value → Bool
fits_kind default forms.Flag value = fits_flag default value
fits_kind default (forms.Valued form) value = fits_form form value

abbrev pub fits_row : Row → Value → Bool
fits_row row value = fits_kind row.default row.kind value

-- the values of options, one for each row
abbrev pub fit_rows : List Row → List Value → Bool
fit_rows [] [] = true
fit_rows [] (value ∷ values) = false
fit_rows (row ∷ rows) [] = false
fit_rows (row ∷ rows) (value ∷ values) = fits_row row value && fit_rows rows values

-- the values of operands, one for each form, and behind them those of options
abbrev pub fit_behind : List Form → List Row → List Value → Bool
fit_behind [] rows values = fit_rows rows values
fit_behind (form ∷ forms) rows [] = false
fit_behind (form ∷ forms) rows (value ∷ values) = fits_form form value && fit_behind forms rows values

-- the values of a command: each one of its kind and within its bounds
abbrev pub fits : Schema → List Value → Bool
fits schema values = fit_behind schema.operands schema.options values

-- no two of these are the same
abbrev pub are_distinct : List (List ℕ) → Bool
are_distinct [] = true
are_distinct (word ∷ words) = not (list_any (bytes_eq word) words) && are_distinct words

-- the bounds of a number have 64 bits, and the words of a set differ
abbrev pub is_sound_form : Form → Bool
is_sound_form forms.Byte = true
is_sound_form (forms.Number least most) = nat_le most (2 ^ 64 - 1)
is_sound_form (forms.Word words) = are_distinct words

-- the default of a flag is that it isn't given
abbrev pub is_flag_default : Option Value → Bool
is_flag_default None = true
is_flag_default (Some (values.Flag flag)) = not flag
is_flag_default (Some (values.Number n)) = false
is_flag_default (Some (values.Word n)) = false

abbrev pub is_default_of : Form → Option Value → Bool
is_default_of form None = true
is_default_of form (Some default) = fits_form form default

abbrev pub is_sound_kind : Option Value → Kind → Bool
is_sound_kind default forms.Flag = is_flag_default default
is_sound_kind default (forms.Valued form) = is_sound_form form && is_default_of form default

-- a default is a value of its option
abbrev pub is_sound_row : Row → Bool
is_sound_row row = is_sound_kind row.default row.kind

-- a command's rows: the names of its options differ, and each of them is sound, and each operand
abbrev pub is_sound : Schema → Bool
is_sound schema = are_distinct (map (λ row. row.name) schema.options) && list_all is_sound_row schema.options && list_all is_sound_form schema.operands
