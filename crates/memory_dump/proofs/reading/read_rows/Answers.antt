use Rattle.std.proofs.Common.{◌≡◌, length, arith, ap, sym, ◌∙◌, length-drop, Err}
use Rattle.memory_dump.specs.Reading.{behind_so}
use Rattle.memory_dump.proofs.Said.{begins, row_fits, said-refused, next_said, if_err}
use Rattle.memory_dump.proofs.reading.read_rows.Goals as goal

pub put_row-requires : goal.put_row-requires
put_row-requires c = (begins _ _ (sym c.in-Some.ensures)).spelled.aligned

pub split_at-requires : goal.split_at-requires
split_at-requires c = row_fits _ _ (sym c.in-Some.ensures)

pub loop-row-smaller : goal.loop-row-smaller
loop-row-smaller c =
    let fits = row_fits _ _ (sym c.in-Some.ensures) in
    omega (arith, fits, ap length c.split_at.ensures.back, length-drop 42 c.loop-row.rest.now)

pub loop-row-preserved : goal.loop-row-preserved
loop-row-preserved c =
    let fits = row_fits _ _ (sym c.in-Some.ensures) in
    record {
      said = c.loop-row.invariant.said
          ∙ next_said _ _ _ _ _ _ _ _ (sym c.in-Some.ensures) c.in_ok-put_row.ensures.taken c.in_ok-put_row.ensures.after c.from-from.ensures
          c.split_at.ensures.back;
      few = omega (arith, fits, c.loop-row.invariant.few, ap length c.split_at.ensures.back, length-drop 42 c.loop-row.rest.now);
    }

pub returns-in_err-put_row-clause-err : goal.returns-in_err-put_row-clause-err
returns-in_err-put_row-clause-err c =
    if_err c.from_residual.result (λ fault. behind_so c.args.memory.now.memory 2 0 c.args.text.now ≡ Err fault) c.in_err-put_row.field-0.0
    c.from_residual.ensures.1
    (c.loop-row.invariant.said ∙ said-refused _ _ _ _ _ _ (sym c.in-Some.ensures) c.in_err-put_row.ensures.err)
