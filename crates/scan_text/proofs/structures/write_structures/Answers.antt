use Rattle.std.proofs.Common.{ap, ◌∙◌}
use Rattle.vt_outside.proofs.Results.{on_err}
use Rattle.scan_text.specs.List.{structure_line, structure_lines}
use Rattle.scan_text.proofs.Written.{took_same, front_same, lines_taken, lines_all, lines_failed}
use Rattle.scan_text.proofs.structures.write_structures.Goals as goal

pub returns-in_err-write_line-clause-front : goal.returns-in_err-write_line-clause-front
unfolding structure_lines
returns-in_err-write_line-clause-front g c =
    let line = c.structure_line.ensures ∙ ap structure_line c.structure-item.is in
    on_err c.from_residual.result _
    (lines_failed structure_line _ _ _ c.args.structures.now c.loop-structure.structure-index _ c.loop-structure-test.true
    c.loop-structure.invariant
    (front_same _ _ _ _ line c.in_err-write_line.ensures.front))

pub loop-structure-preserved : goal.loop-structure-preserved
loop-structure-preserved g c =
    let line = c.structure_line.ensures ∙ ap structure_line c.structure-item.is in
    lines_taken structure_line _ _ _ c.args.structures.now c.loop-structure.structure-index _ c.loop-structure-test.true
    c.loop-structure.invariant
    (took_same _ _ _ _ line c.in_ok-write_line.ensures.ok)

pub returns-clause-ok : goal.returns-clause-ok
unfolding structure_lines
returns-clause-ok g c =
    lines_all structure_line _ _ c.args.structures.now c.loop-structure.structure-index c.loop-structure-test.false
    c.loop-structure.invariant
