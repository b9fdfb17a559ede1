use Rattle.std.proofs.Common.{flat_map, take}
use Rattle.vt_outside.specs.Stream.{Took}
use Rattle.scan_text.specs.List.{length_line}
use Rattle.scan_text.proofs.tables.write_lengths.Given as goal

abbrev pub invariant-loop-table : goal.invariant-loop-table
invariant-loop-table g l = Took (flat_map length_line (take l.table-index l.tables)) (g.K.Sink.seen l.initial.out) (g.K.Sink.seen l.out)
