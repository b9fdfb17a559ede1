use Rattle.std.proofs.Common.{arith, length-append}
use Rattle.word_schema.specs.declared.value.Value.{Value}
use Rattle.word_schema.proofs.Fronts.{values_go_on, values_stop, operands_step, operands_done}
use Rattle.word_schema.proofs.walk.push_operands.Goals as goal

pub returns-in_err-value_of-clause-values : goal.returns-in_err-value_of-clause-values
returns-in_err-value_of-clause-values c =
    let step =
    operands_step c.args.operands.now c.args.words.now c.loop-index.index _ c.index-words-index.result c.as_str.result.now c.loop-index-test.true (omega arith)
    c.index-words-index.is c.as_str.ensures.value in
    rw c.from_residual.ensures (values_stop c.loop-index.values _ _ _ _ c.in_err-value_of.ensures step c.loop-index.invariant.0)

pub loop-index-preserved : goal.loop-index-preserved
loop-index-preserved c =
    let step =
    operands_step c.args.operands.now c.args.words.now c.loop-index.index _ c.index-words-index.result c.as_str.result.now c.loop-index-test.true (omega arith)
    c.index-words-index.is c.as_str.ensures.value in (
      values_go_on c.loop-index.values c.push.new.self c.in_ok-value_of.field-0 _ _ _ _ c.push.ensures c.in_ok-value_of.ensures step c.loop-index.invariant.0,
      rw (c.push.ensures, length-append {A = Value}) (omega arith),
      omega arith,
    )

pub returns-clause-values : goal.returns-clause-values
returns-clause-values c =
    operands_done c.args.operands.now c.args.words.now c.loop-index.index c.loop-index.values _ c.loop-index-test.false (omega arith) c.loop-index.invariant.0
