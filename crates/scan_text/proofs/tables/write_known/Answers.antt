use Rattle.vt_outside.proofs.Results.{on_err}
use Rattle.scan_text.specs.List.{line_if_there, known_lines}
use Rattle.scan_text.proofs.Written.{lines_taken, lines_all, lines_failed}
use Rattle.scan_text.proofs.tables.write_known.Goals as goal

pub returns-in_err-write_if_there-clause-front : goal.returns-in_err-write_if_there-clause-front
unfolding known_lines
returns-in_err-write_if_there-clause-front g c =
    on_err c.from_residual.result _
    (lines_failed line_if_there _ _ _ c.args.tables.now c.loop-table.table-index _ c.loop-table-test.true c.loop-table.invariant
    c.in_err-write_if_there.ensures.front)

pub loop-table-preserved : goal.loop-table-preserved
loop-table-preserved g c =
    lines_taken line_if_there _ _ _ c.args.tables.now c.loop-table.table-index _ c.loop-table-test.true c.loop-table.invariant
    c.in_ok-write_if_there.ensures.ok

pub returns-clause-ok : goal.returns-clause-ok
unfolding known_lines
returns-clause-ok g c =
    lines_all line_if_there _ _ c.args.tables.now c.loop-table.table-index c.loop-table-test.false c.loop-table.invariant
