use Rattle.std.proofs.Common.{◌≡◌, ◌+◌, ◌-◌, ◌≤◌, map, length, drop, string_bytes}
use Rattle.word_schema.specs.Forms.{forms_of}
use Rattle.word_schema.specs.Given.{operand_values}
use Rattle.word_schema.proofs.Fronts.{behind}
use Rattle.word_schema.proofs.walk.push_operands.Given as goal

abbrev pub invariant-loop-index : goal.invariant-loop-index
invariant-loop-index l =
    (behind l.values (operand_values (forms_of (drop l.index l.operands)) (map string_bytes (drop l.index l.words)))
    ≡ behind l.fn.values (operand_values (forms_of l.operands) (map string_bytes l.words)))
    × (length l.values ≡ length l.fn.values + l.index) × (l.index ≤ length l.operands)

abbrev pub decreases-loop-index : goal.decreases-loop-index
decreases-loop-index l = length l.operands - l.index
