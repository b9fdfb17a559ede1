-- The words of a command.
use Rattle.std.specs.Prelude.{ℕ, true, false, List, [], ◌∷◌}
use Rattle.word_schema.specs.declared.value.Value.{Value}
use Rattle.word_schema.specs.declared.value.Value.TheVariants as values
use Rattle.word_schema.specs.Written.{written}
use Rattle.vt_words.specs.declared.command.Command.{Command}
use Rattle.vt_words.specs.declared.command.Command.TheVariants.{Boot, Load, Build, Decode, List as Listing, Gen}
use Rattle.vt_words.specs.declared.command.Sought.TheVariants.{One, Any}
use Rattle.vt_words.specs.Command.{CommandRow, row, boot_of, build_of, decode_of, gen_of, load_of}
use Rattle.vt_words.specs.Rows.{boot, build, decode, generate, load}
use Rattle.vt_words.specs.Settings.{setting_values}

-- the row of a command, and its values
abbrev pub row_of : Command → CommandRow
row_of (Boot setting) = row boot boot_of
row_of (Load options) = row load load_of
row_of Build = row build build_of
row_of (Decode legacy) = row decode decode_of
row_of (Listing sought) = row decode decode_of
row_of (Gen processors) = row generate gen_of

abbrev pub values_for : Command → List Value
values_for (Boot setting) = setting_values setting
values_for (Load options) = values.Number options.top_mib ∷ values.Flag options.install ∷ setting_values options.setting
values_for Build = []
values_for (Decode legacy) = values.Flag false ∷ values.Flag legacy ∷ values.Flag false ∷ values.Flag false ∷ []
values_for (Listing (One legacy smbios2)) = values.Flag true ∷ values.Flag legacy ∷ values.Flag smbios2 ∷ values.Flag false ∷ []
values_for (Listing Any) = values.Flag true ∷ values.Flag false ∷ values.Flag false ∷ values.Flag true ∷ []
values_for (Gen processors) = values.Number processors ∷ []

-- a command's name, its operands, and each option whose value isn't its default
abbrev pub words_of : Command → List (List ℕ)
words_of command = (row_of command).schema.name ∷ written (row_of command).schema (values_for command)
