-- The options of a command, in any order.
use Rattle.std.proofs.Common.{◌≡◌, ℕ, List, ◌∷◌, ◌++◌, length, Option, Some, option_map, ap, sym, ◌∙◌}
use Rattle.std.specs.List.Sorted.{IsPermutation}
use Rattle.std.specs.Option.{option_and_then}
use Rattle.word_schema.specs.Given.{Given, given_by, values_of}
use Rattle.word_schema.proofs.Orders.{any_order}
use Rattle.vt_words.specs.declared.command.Command.{Command}
use Rattle.vt_words.specs.Command.{CommandRow, command_named, command_of}

-- what words are behind a command's name
made_by : List (List ℕ) → Option CommandRow → Option Command
made_by words found = option_and_then (λ command. option_map command.make (values_of command.schema words)) found

pub same_command : (name : List ℕ) (command : CommandRow) (front words others : List (List ℕ)) (given moved : List Given)
    → command_named name ≡ Some command → length front ≡ length command.schema.operands
    → given_by command.schema.options words ≡ Some given → given_by command.schema.options others ≡ Some moved → IsPermutation given moved
    → command_of (name ∷ front ++ words) ≡ command_of (name ∷ front ++ others)
unfolding made_by
same_command name command front words others given moved is long of of_too same =
    ap (made_by (front ++ words)) is
    ∙ (ap (option_map command.make) (any_order command.schema front words others given moved long of of_too same) ∙ ap (made_by (front ++ others)) (sym is))
