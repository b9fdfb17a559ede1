use Rattle.std.proofs.Common.{◌≡◌, sym, ◌∙◌, arith}
use Rattle.desc_schema.specs.Form.{form_of}
use Rattle.desc_schema.specs.Written.{hyphenated}
use Rattle.desc_schema.proofs.WriterSteps.{rest_texts, spliced_none, singles_go_on}
use Rattle.desc_schema.proofs.writing.single_nodes.Goals as goal

pub loop-left-preserved : goal.loop-left-preserved
loop-left-preserved c = record {
  texts = rw c.take_first.ensures.rest (rest_texts c.loop-left.values c.loop-left.invariant.texts);
  so_far = rw (c.in_ok-push.ensures.items, c.take_first.ensures.rest)
      (singles_go_on hyphenated (form_of c.args.scalar) c.loop-left.left c.loop-left.values c.loop-left.nodes.items c.in_ok-node.node _ c.loop-left-test.true
      (rw c.take_first.ensures.first at c.in_ok-node.ensures) c.loop-left.invariant.so_far);
}

pub returns-clause-made : goal.returns-clause-made
returns-clause-made c =
    let none : c.loop-left.left ≡ 0 = omega arith in
    sym (spliced_none c.loop-left.nodes.items c.loop-left.values) ∙ (rw none at c.loop-left.invariant.so_far)
