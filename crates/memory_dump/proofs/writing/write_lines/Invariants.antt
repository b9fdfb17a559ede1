use Rattle.std.proofs.Common.{length}
use Rattle.vt_outside.proofs.Taken.{TookUpTo}
use Rattle.memory_dump.proofs.writing.write_lines.Given as goal

abbrev pub invariant-loop-rest : goal.invariant-loop-rest
invariant-loop-rest g l = TookUpTo l.text l.rest (g.K.Sink.seen l.initial.out) (g.K.Sink.seen l.out)

abbrev pub decreases-loop-rest : goal.decreases-loop-rest
decreases-loop-rest g l = length l.rest
