use Rattle.std.proofs.Common.{◌≡◌, take}
use Rattle.vt_layout.specs.Rows.{size}
use Rattle.vt_layout.proofs.row.size_of.Given as goal

abbrev pub invariant-loop-row : goal.invariant-loop-row
invariant-loop-row l = l.total ≡ size (take l.row-index l.rows)
