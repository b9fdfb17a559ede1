use Rattle.std.proofs.Common.{flat_map, take}
use Rattle.vt_outside.specs.Stream.{Took}
use Rattle.scan_text.specs.List.{line_if_there}
use Rattle.scan_text.proofs.tables.write_known.Given as goal

abbrev pub invariant-loop-table : goal.invariant-loop-table
invariant-loop-table g l = Took (flat_map line_if_there (take l.table-index l.tables)) (g.K.Sink.seen l.initial.out) (g.K.Sink.seen l.out)
