use Rattle.std.proofs.Common.{◌≡◌, ◌++◌, take}
use Rattle.vt_layout.specs.Rows.{spelled}
use Rattle.vt_layout.proofs.writing.put_rows.Given as goal

abbrev pub invariant-loop-row : goal.invariant-loop-row
invariant-loop-row l = l.bytes ≡ l.fn.bytes ++ spelled (take l.row-index l.rows)
