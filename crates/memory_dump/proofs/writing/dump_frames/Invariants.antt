use Rattle.std.proofs.Common.{◌*◌}
use Rattle.vt_outside.specs.Stream.{Took}
use Rattle.memory_dump.specs.Dump.{rows_text}
use Rattle.memory_dump.proofs.writing.dump_frames.Given as goal

abbrev pub invariant-loop-k : goal.invariant-loop-k
invariant-loop-k g l = Took (rows_text l.memory.memory l.start (256 * l.k)) (g.K.Sink.seen l.initial.out) (g.K.Sink.seen l.out)
