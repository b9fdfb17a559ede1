use Rattle.std.proofs.Common.{flat_map, take}
use Rattle.vt_outside.specs.Stream.{Took}
use Rattle.scan_text.specs.List.{structure_line}
use Rattle.scan_text.proofs.structures.write_structures.Given as goal

abbrev pub invariant-loop-structure : goal.invariant-loop-structure
invariant-loop-structure g l =
    Took (flat_map structure_line (take l.structure-index l.structures)) (g.K.Sink.seen l.initial.out) (g.K.Sink.seen l.out)
