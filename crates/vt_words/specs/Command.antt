-- Which words are which command.
use Rattle.std.specs.Prelude.{ℕ, ◌≤◌, ⊤, Bool, List, [], ◌∷◌, Option, None, option_map, if◌then◌else◌}
use Rattle.std.specs.List.{find}
use Rattle.std.specs.Option.{option_and_then}
use Rattle.std.specs.Str.{bytes_eq}
use Rattle.word_schema.specs.declared.value.Value.{Value}
use Rattle.word_schema.specs.Forms.{Schema}
use Rattle.word_schema.specs.Given.{values_of}
use Rattle.word_schema.specs.Taken.{first, rest, value_at, flag_of, number_to}
use Rattle.vt_words.specs.declared.command.Command.{Command}
use Rattle.vt_words.specs.declared.command.Command.TheVariants.{Boot, Load, Build, Decode, List as Listing, Gen}
use Rattle.vt_words.specs.declared.command.Sought.{Sought}
use Rattle.vt_words.specs.declared.command.Sought.TheVariants.{One, Any}
use Rattle.vt_words.specs.Rows.{boot, build, decode, generate, load}
use Rattle.vt_words.specs.Settings.{IsSetting, setting_of}

-- What each command is with the values of its words, which stand in the order of its options.
abbrev pub build_of : List Value → Command
build_of values = Build

abbrev pub boot_of : List Value → Command
boot_of values = Boot (setting_of values)

abbrev pub load_of : List Value → Command
load_of values =
    Load (record {
      top_mib = number_to 3072 (first values);
      install = flag_of (value_at 1 values);
      setting = setting_of (rest (rest values));
    })

-- what is looked for where these flags are given: legacy tables, the old anchor, any
abbrev pub sought_of : Bool → Bool → Bool → Sought
sought_of legacy smbios2 any = if any then Any else One legacy smbios2

abbrev pub decode_of : List Value → Command
decode_of values =
    let legacy = flag_of (value_at 1 values) in
    if flag_of (first values) then Listing (sought_of legacy (flag_of (value_at 2 values)) (flag_of (value_at 3 values))) else Decode legacy

abbrev pub gen_of : List Value → Command
gen_of values = Gen (number_to 4096 (first values))

-- a command's words, and what it is with their values
pub record CommandRow : Type 0 where
  pub schema : Schema
  pub make : List Value → Command

abbrev pub row : Schema → (List Value → Command) → CommandRow
row schema make = record { schema = schema; make = make }

-- the commands
abbrev pub commands : List CommandRow
commands = row build build_of ∷ row boot boot_of ∷ row load load_of ∷ row decode decode_of
    ∷ row generate gen_of ∷ []

-- the command of a name
abbrev pub command_named : List ℕ → Option CommandRow
command_named name = find (λ command. bytes_eq name command.schema.name) commands

-- The command that the words are: its name, and words of it. None where they are no command.
abbrev pub command_of : List (List ℕ) → Option Command
command_of [] = None
command_of (name ∷ words) = option_and_then (λ command. option_map command.make (values_of command.schema words)) (command_named name)

-- a command whose values are in range
abbrev pub IsLawful : Command → Type 0
IsLawful (Boot setting) = IsSetting setting
IsLawful (Load options) = (64 ≤ options.top_mib) × (options.top_mib ≤ 3072) × IsSetting options.setting
IsLawful Build = ⊤
IsLawful (Decode legacy) = ⊤
IsLawful (Listing sought) = ⊤
IsLawful (Gen processors) = (1 ≤ processors) × (processors ≤ 4096)
