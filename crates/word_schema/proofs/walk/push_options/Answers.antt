use Rattle.std.proofs.Common.{arith, length-append}
use Rattle.word_schema.specs.declared.value.Value.{Value}
use Rattle.word_schema.specs.Steps.{options_given}
use Rattle.word_schema.proofs.Fronts.{values_go_on, values_stop, options_step, options_done}
use Rattle.word_schema.proofs.walk.push_options.Goals as goal

pub returns-in_err-option_value : goal.returns-in_err-option_value
returns-in_err-option_value c =
    let step = options_step c.args.options.now (options_given c.args.given.now) c.loop-option.option-index _ c.loop-option-test.true in
    record { values = rw c.from_residual.ensures (values_stop c.loop-option.values _ _ _ _ c.in_err-option_value.ensures step c.loop-option.invariant.0) }

pub loop-option-preserved : goal.loop-option-preserved
loop-option-preserved c =
    let step = options_step c.args.options.now (options_given c.args.given.now) c.loop-option.option-index _ c.loop-option-test.true in (
      values_go_on c.loop-option.values c.push.new.self c.in_ok-option_value.field-0 _ _ _ _ c.push.ensures c.in_ok-option_value.ensures step
          c.loop-option.invariant.0,
      rw (c.push.ensures, length-append {A = Value}) (omega arith),
    )

pub returns : goal.returns
returns c = record {
  values = options_done c.args.options.now (options_given c.args.given.now) c.loop-option.option-index c.loop-option.values _ c.loop-option-test.false
      c.loop-option.invariant.0;
}
