use Rattle.std.proofs.Common.{◌≤◌, [], ◌∷◌, ◌++◌, length, drop, sym, ◌∙◌, arith, length-drop}
use Rattle.std.proofs.lemmas.Result.{err_from_is_err_and}
use Rattle.std.proofs.lemmas.List.{take_rest}
use Rattle.aml_terms.specs.Trees.{view}
use Rattle.aml_terms.specs.Reading.{value_behind, value_at}
use Rattle.aml_decode.specs.Rooms.{buffer_at, package_at}
use Rattle.aml_decode.proofs.Counted.{next_kept, count_right, count_wrong}
use Rattle.aml_decode.proofs.Each.{next_read, next_bad, none_left}
use Rattle.aml_decode.proofs.Led.{led_none, led_bad, led_read}
use Rattle.aml_decode.proofs.Levels.{value_led, value_moves}
use Rattle.aml_decode.proofs.values.+values.Goals as goal

pub package_in-returns-then-from-kept : goal.package_in-returns-then-from-kept
package_in-returns-then-from-kept t c =
    let all = c.in_ok-kept.ensures.values in
    count_wrong (value_at c.args.room) c.args.place c.in_ok-count.count c.args.text.now c.in_ok-kept.kept all.0 c.in_ok-count.ensures.byte all.1 all.2
    (λ e. c.if-from-kept.true (c.from.ensures ∙ e))

pub package_in-returns : goal.package_in-returns
package_in-returns t c =
    let all = c.in_ok-kept.ensures.values in
    count_right (value_at c.args.room) c.args.place c.in_ok-count.count c.args.text.now c.in_ok-kept.kept all.0 (omega arith)
    c.in_ok-count.ensures.byte all.1 all.2
    (sym c.from.ensures ∙ c.if-from-kept.false)

pub read_value-returns-in_err-byte-clause-value : goal.read_value-returns-in_err-byte-clause-value
read_value-returns-in_err-byte-clause-value t c =
    let p = err_from_is_err_and c.from_residual.result c.from_residual.ensures.1 in
    rw (p.1, p.2, value_led)
    (led_none (λ byte. value_behind (buffer_at c.args.room) (package_at c.args.room) byte) c.in_err-byte.field-0.0 c.args.place c.args.text.now
    c.in_err-byte.ensures.byte)

pub read_value-returns-in_err-value-clause-value : goal.read_value-returns-in_err-value-clause-value
read_value-returns-in_err-value-clause-value t c =
    let p = err_from_is_err_and c.from_residual-in_err-value.result c.from_residual-in_err-value.ensures.1 in
    rw (p.1, p.2, value_led)
    (led_bad (λ byte. value_behind (buffer_at c.args.room) (package_at c.args.room) byte) c.in_err-value.field-0.0 c.args.place c.in_ok-byte.byte
    c.args.text.now
    c.of.result c.of.ensures.opcode c.in_ok-byte.ensures.byte c.in_err-value.ensures.value)

pub read_value-returns-clause-value : goal.read_value-returns-clause-value
read_value-returns-clause-value t c =
    rw value_led
    (led_read (λ byte. value_behind (buffer_at c.args.room) (package_at c.args.room) byte) c.args.place c.in_ok-byte.byte c.args.text.now c.of.result
    c.in_ok-value.value c.behind.result c.of.ensures.opcode c.in_ok-byte.ensures.byte c.in_ok-value.ensures.value c.behind.ensures.value c.behind.ensures.size)

pub read_values-returns-in_err-found-clause-fault : goal.read_values-returns-in_err-found-clause-fault
read_values-returns-in_err-found-clause-fault t c =
    let p = err_from_is_err_and c.from_residual.result c.from_residual.ensures.1 in
    let front = c.loop-size.invariant.all in
    rw (p.1, p.2)
    (next_bad (value_at c.args.room) (value_moves c.args.room) c.in_err-found.field-0.0 c.args.place c.loop-size.size c.args.text.now front.0 _ (omega arith)
    c.in_err-found.ensures.value front.2)

pub read_values-loop-size-preserved : goal.read_values-loop-size-preserved
read_values-loop-size-preserved t c =
    let front = c.loop-size.invariant.all in
    let within : c.in_ok-found.found.size ≤ length (drop c.loop-size.size c.args.text.now) = rw take_rest at c.in_ok-found.ensures.within in
    record {
      all = (
        front.0 ++ view c.in_ok-found.found.value ∷ [],
        next_kept c.loop-size.kept c.add.new.self c.in_ok-found.found.value front.0 front.1 c.in_ok-add.ensures.count c.in_ok-add.ensures.values,
        next_read (value_at c.args.room) (value_moves c.args.room) c.args.place c.loop-size.size c.in_ok-found.found.size c.args.text.now front.0
            (view c.in_ok-found.found.value) _ (omega arith) c.in_ok-found.ensures.value front.2,
      );
      within = omega (arith, within, length-drop c.loop-size.size c.args.text.now);
      few = omega (arith, c.in_ok-add.ensures.count, c.in_ok-found.ensures.some);
    }

pub read_values-returns-clause-values : goal.read_values-returns-clause-values
read_values-returns-clause-values t c =
    let front = c.loop-size.invariant.all in
    (front.0, front.1, none_left (value_at c.args.room) (value_moves c.args.room) c.args.place c.loop-size.size c.args.text.now front.0 _ (omega arith) front.2)
