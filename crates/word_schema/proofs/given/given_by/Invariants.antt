use Rattle.std.proofs.Common.{◌≡◌, map, length, string_bytes}
use Rattle.word_schema.specs.Forms.{rows_of}
use Rattle.word_schema.specs.Given.{given_by}
use Rattle.word_schema.specs.Steps.{options_given}
use Rattle.word_schema.proofs.Fronts.{behind}
use Rattle.word_schema.proofs.given.given_by.Given as goal

abbrev pub invariant-loop-name : goal.invariant-loop-name
invariant-loop-name l =
    given_by (rows_of l.options) (map string_bytes l.words) ≡ behind (options_given l.given.items) (given_by (rows_of l.options) (map string_bytes l.rest))

abbrev pub decreases-loop-name : goal.decreases-loop-name
decreases-loop-name l = length l.rest
