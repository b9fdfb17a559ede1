-- The commands and their options, without the texts of their help.
use Rattle.std.specs.Prelude.{ℕ, ◌-◌, ◌^◌, false, List, [], ◌∷◌, Option, Some, codes}
use Rattle.word_schema.specs.declared.value.Value.{Value}
use Rattle.word_schema.specs.declared.value.Value.TheVariants as values
use Rattle.word_schema.specs.Forms.{Form, Byte, Number, Word, Row, Pair, Schema, Flag, Valued}

-- an option with a value that has a default
abbrev pub valued : List ℕ → Form → Value → Row
valued name form default = record { name = name; kind = Valued form; default = Some default }

-- a flag, and what it is where it's left out, or none where it must be given
abbrev pub flag : List ℕ → Option Value → Row
flag name default = record { name = name; kind = Flag; default = default }

-- a command with no operands, and no options that exclude each other or need another
abbrev pub command : List ℕ → List Row → Schema
command name options = record { name = name; operands = []; options = options; exclusive = []; needs = [] }

-- the top of memory, in MiB
abbrev pub top_row : Row
top_row = valued (codes "--top") (Number 64 3072) (values.Number 64)

-- what each byte of memory is at the beginning
abbrev pub fill_row : Row
fill_row = valued (codes "--fill") Byte (values.Number 0)

-- the policy of the guest's allocator, by its name
abbrev pub policy_names : List (List ℕ)
policy_names = codes "low" ∷ codes "top" ∷ codes "scatter" ∷ []

abbrev pub policy_row : Row
policy_row = valued (codes "--policy") (Word policy_names) (values.Word 0)

-- the seed, any number of 64 bits
abbrev pub seed_row : Row
seed_row = valued (codes "--seed") (Number 0 (2 ^ 64 - 1)) (values.Number 0)

-- the options of commands that load files
abbrev pub setting_rows : List Row
setting_rows = fill_row ∷ policy_row ∷ seed_row ∷ []

-- that a list is wanted
abbrev pub list_row : Row
list_row = flag (codes "--list") (Some (values.Flag false))

-- that the tables of an RSDT are read
abbrev pub legacy_row : Row
legacy_row = flag (codes "--legacy") (Some (values.Flag false))

-- that the structures of the old SMBIOS anchor are listed
abbrev pub smbios2_row : Row
smbios2_row = flag (codes "--smbios2") (Some (values.Flag false))

-- that the first anchors of any form are listed
abbrev pub any_row : Row
any_row = flag (codes "--any") (Some (values.Flag false))

-- that SMBIOS files outside the script are installed
abbrev pub install_row : Row
install_row = flag (codes "--install") (Some (values.Flag false))

abbrev pub pair : Row → Row → Pair
pair one other = record { one = one.name; other = other.name }

abbrev pub build : Schema
build = command (codes "build") []

abbrev pub boot : Schema
boot = command (codes "boot") setting_rows

abbrev pub load : Schema
load = command (codes "load") (top_row ∷ install_row ∷ setting_rows)

abbrev pub decode : Schema
decode = record {
  name = codes "decode";
  operands = [];
  options = list_row ∷ legacy_row ∷ smbios2_row ∷ any_row ∷ [];
  exclusive = pair any_row legacy_row ∷ pair any_row smbios2_row ∷ [];
  needs = pair smbios2_row list_row ∷ pair any_row list_row ∷ [];
}

-- how many processors a machine is generated of
abbrev pub generate : Schema
generate = record { name = codes "gen"; operands = Number 1 4096 ∷ []; options = []; exclusive = []; needs = [] }
