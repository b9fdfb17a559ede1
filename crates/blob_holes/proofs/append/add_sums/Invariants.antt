use Rattle.std.proofs.Common.{◌≡◌, ◌+◌, ◌++◌, take}
use Rattle.vt_layout.specs.Rows.{size}
use Rattle.blob_holes.specs.Rows.{sum_holes}
use Rattle.blob_holes.proofs.append.add_sums.Given as goal

abbrev pub invariant-loop-row : goal.invariant-loop-row
invariant-loop-row l = record {
  blob : l.blob ≡ record l.fn.blob { sums = l.fn.blob.sums ++ sum_holes l.start l.at (take l.row-index l.rows) };
  place : l.place ≡ l.at + size (take l.row-index l.rows);
}
