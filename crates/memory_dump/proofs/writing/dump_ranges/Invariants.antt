use Rattle.std.proofs.Common.{take}
use Rattle.vt_outside.specs.Stream.{Took}
use Rattle.memory_dump.specs.Dump.{ranges_text}
use Rattle.memory_dump.proofs.writing.dump_ranges.Given as goal

abbrev pub invariant-loop-range : goal.invariant-loop-range
invariant-loop-range g l = Took (ranges_text l.memory.memory (take l.range-index l.range-items)) (g.K.Sink.seen l.initial.out) (g.K.Sink.seen l.out)
