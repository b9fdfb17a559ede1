use Rattle.vt_outside.proofs.Taken.{took_piece}
use Rattle.vt_outside.proofs.Results.{on_err}
use Rattle.memory_dump.proofs.Offered.{line_failed}
use Rattle.memory_dump.proofs.writing.write_lines.Goals as goal

pub loop-rest-preserved : goal.loop-rest-preserved
loop-rest-preserved g c = took_piece _ _ _ _ _ _ c.loop-rest.invariant c.in_ok-write_all.ensures.ok

pub returns-in_err-write_all-clause-front : goal.returns-in_err-write_all-clause-front
returns-in_err-write_all-clause-front g c =
    on_err c.from_residual.result _ (line_failed _ _ _ _ _ _ c.loop-rest.invariant c.in_err-write_all.ensures.front)
