use Rattle.std.proofs.Common.{ap}
use Rattle.vt_outside.specs.MemoryStream.{SourceState}
use Rattle.vt_outside.proofs.Pieces.{given_then_left}
use Rattle.vt_outside.proofs.memory_source.ListSourceSource.read.Goals as goal

pub returns-clause-given : goal.returns-clause-given
returns-clause-given c =
    given_then_left c.args.self.now.left c.self.inside.bytes _ _ _ c.self.inside.given _ _ (ap (λ (s : SourceState). s.left) c.self.view_is)
    c.as_slice-2.ensures c.min-count.ensures c.copy_from_slice.ensures.after
