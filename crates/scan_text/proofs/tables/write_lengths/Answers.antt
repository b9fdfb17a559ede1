use Rattle.vt_outside.proofs.Results.{on_err}
use Rattle.scan_text.specs.List.{length_line, length_lines}
use Rattle.scan_text.proofs.Written.{took_same, front_same, lines_taken, lines_all, lines_failed}
use Rattle.scan_text.proofs.tables.write_lengths.Goals as goal

pub returns-in_err-write_line-clause-front : goal.returns-in_err-write_line-clause-front
unfolding length_lines
returns-in_err-write_line-clause-front g c =
    on_err c.from_residual.result _
    (lines_failed length_line _ _ _ c.args.tables.now c.loop-table.table-index _ c.loop-table-test.true c.loop-table.invariant
    (front_same _ _ _ _ c.length_line.ensures c.in_err-write_line.ensures.front))

pub loop-table-preserved : goal.loop-table-preserved
loop-table-preserved g c =
    lines_taken length_line _ _ _ c.args.tables.now c.loop-table.table-index _ c.loop-table-test.true c.loop-table.invariant
    (took_same _ _ _ _ c.length_line.ensures c.in_ok-write_line.ensures.ok)

pub returns-clause-ok : goal.returns-clause-ok
unfolding length_lines
returns-clause-ok g c =
    lines_all length_line _ _ c.args.tables.now c.loop-table.table-index c.loop-table-test.false c.loop-table.invariant
