use Rattle.vt_layout.specs.Records.{values_said}
use Rattle.vt_layout.proofs.ValuesInTurn.{IsNext}
use Rattle.vt_layout.proofs.record_reader.read_values.Given as goal

abbrev pub invariant-loop-row : goal.invariant-loop-row
invariant-loop-row l = IsNext l.rows l.row-index l.left l.strings l.values (values_said l.rows l.area l.strings)
