use Rattle.std.proofs.Common.{◌≡◌, take}
use Rattle.blob_holes.specs.Rows.{unsummed}
use Rattle.blob_holes.proofs.append.append_unsummed.Given as goal

abbrev pub invariant-loop-row : goal.invariant-loop-row
invariant-loop-row l = l.blob ≡ unsummed l.fn.blob (take l.row-index l.rows)
