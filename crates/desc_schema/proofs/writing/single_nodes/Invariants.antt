use Rattle.std.proofs.Common.{◌≡◌}
use Rattle.desc_schema.specs.Form.{form_of}
use Rattle.desc_schema.specs.Written.{hyphenated, AreTexts, singles_written}
use Rattle.desc_schema.proofs.WriterSteps.{spliced}
use Rattle.desc_schema.proofs.writing.single_nodes.Given as goal

abbrev pub invariant-loop-left : goal.invariant-loop-left
invariant-loop-left l = record {
  texts : AreTexts l.values;
  so_far : spliced l.nodes.items (singles_written hyphenated (form_of l.scalar) l.left l.values) ≡ singles_written hyphenated (form_of l.scalar)
      l.count l.fn.values;
}

abbrev pub decreases-loop-left : goal.decreases-loop-left
decreases-loop-left l = l.left
