use Rattle.std.proofs.Common.{◌≡◌, ◌+◌, length, drop}
use Rattle.word_schema.specs.Forms.{rows_of}
use Rattle.word_schema.specs.Given.{option_values}
use Rattle.word_schema.specs.Steps.{options_given}
use Rattle.word_schema.proofs.Fronts.{behind}
use Rattle.word_schema.proofs.walk.push_options.Given as goal

abbrev pub invariant-loop-option : goal.invariant-loop-option
invariant-loop-option l =
    (behind l.values (option_values (rows_of (drop l.option-index l.options)) (options_given l.given))
    ≡ behind l.fn.values (option_values (rows_of l.options) (options_given l.given)))
    × (length l.values ≡ length l.fn.values + l.option-index)
