use Rattle.vt_outside.proofs.Pieces.{given_then_left}
use Rattle.vt_outside.proofs.memory_source.SureSourceSource.read.Goals as goal

pub returns-clause-given : goal.returns-clause-given
returns-clause-given c =
    given_then_left c.args.self.now c.self.inside.bytes _ _ _ c.self.inside.given _ _ c.self.view_is c.as_slice.ensures c.min-count.ensures
    c.copy_from_slice.ensures.after
