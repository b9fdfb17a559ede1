-- What the options say that commands share which load files.
use Rattle.std.specs.Prelude.{◌-◌, ◌^◌, ◌<◌, List, [], ◌∷◌}
use Rattle.word_schema.specs.declared.value.Value.{Value}
use Rattle.word_schema.specs.declared.value.Value.TheVariants as values
use Rattle.word_schema.specs.Taken.{value_at, number_to, place_in}
use Rattle.vt_words.specs.declared.setting.Setting.{Setting}
use Rattle.vt_words.specs.Policies.{policy_at, place_for, HasSeed}

-- the setting of the values in front, which are those of its options
abbrev pub setting_of : List Value → Setting
setting_of values =
    record {
      fill = number_to 255 (value_at 0 values);
      policy = policy_at (number_to (2 ^ 64 - 1) (value_at 2 values)) (place_in (value_at 1 values));
      seed = number_to (2 ^ 64 - 1) (value_at 2 values);
    }

-- the values of a setting
abbrev pub setting_values : Setting → List Value
setting_values s = values.Number s.fill ∷ values.Word (place_for s.policy) ∷ values.Number s.seed ∷ []

-- a setting whose values are in range
pub record IsSetting (s : Setting) : Type 0 where
  pub fill : s.fill < 256
  pub seed : s.seed < 2 ^ 64
  pub policy : HasSeed s.seed s.policy
