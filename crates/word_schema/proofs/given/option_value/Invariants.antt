use Rattle.std.proofs.Common.{◌≡◌, ◌++◌, drop}
use Rattle.std.specs.Option.{option_to_list}
use Rattle.word_schema.specs.Given.{values_named}
use Rattle.word_schema.specs.Steps.{options_given}
use Rattle.word_schema.proofs.given.option_value.Given as goal

abbrev pub invariant-loop-other : goal.invariant-loop-other
invariant-loop-other l = values_named l.option.name.now (options_given l.given)
    ≡ option_to_list l.found ++ values_named l.option.name.now (options_given (drop l.other-index l.given))
