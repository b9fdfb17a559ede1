use Rattle.std.proofs.Common.{◌≡◌, true, ◌+◌, ◌≤◌, length}
use Rattle.test_files.proofs.zones.rows.are_placed.Given as goal

abbrev pub invariant-loop-row : goal.invariant-loop-row
invariant-loop-row g l = record {
  begun : (g.A.ZoneAlloc.state l.alloc).begun.ready ≡ true;
  grown : length (g.A.ZoneAlloc.state l.alloc).handed ≤ length (g.A.ZoneAlloc.state l.fn.alloc).handed + l.row-index;
}
