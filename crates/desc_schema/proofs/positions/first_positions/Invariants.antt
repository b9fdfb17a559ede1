use Rattle.std.proofs.Common.{◌≡◌, ◌≤◌, ◌-◌, replicate, length}
use Rattle.desc_schema.proofs.positions.first_positions.Given as goal

abbrev pub invariant-loop-positions : goal.invariant-loop-positions
invariant-loop-positions l = (l.positions ≡ replicate (length l.positions) 0) × (length l.positions ≤ l.tables)

abbrev pub decreases-loop-positions : goal.decreases-loop-positions
decreases-loop-positions l = l.tables - length l.positions
