use Rattle.vt_outside.proofs.Taken.{took_piece}
use Rattle.vt_outside.proofs.writing.write_all.Goals as goal

pub loop-rest-preserved : goal.loop-rest-preserved
loop-rest-preserved g c = took_piece _ _ _ _ _ _ c.loop-rest.invariant c.in_ok-count.ensures.took
