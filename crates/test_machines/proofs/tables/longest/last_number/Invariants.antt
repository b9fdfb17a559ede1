use Rattle.std.proofs.Common.{◌≤◌, length}
use Rattle.test_machines.proofs.tables.longest.last_number.Given as goal

abbrev pub invariant-loop-place : goal.invariant-loop-place
invariant-loop-place l = length l.strings ≤ l._place
