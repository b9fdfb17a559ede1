use Rattle.std.proofs.Common.{◌≡◌, ℕ, ◌-◌, ◌%◌, ◌<◌, ◌≤◌}
use Rattle.vt_bytes.specs.Memory.{seen}
use Rattle.anchor_scan.proofs.least.least_anchor.Given as goal

abbrev pub invariant-loop-address : goal.invariant-loop-address
invariant-loop-address g l = record {
  from : g.A.AnchorKind.START ≤ l.address;
  aligned : l.address % 16 ≡ 0;
  none : (other : ℕ) → other < l.address → g.A.AnchorKind.Stands l.kind (seen l.memory.memory) other → ⊥;
}

abbrev pub decreases-loop-address : goal.decreases-loop-address
decreases-loop-address g l = 0x100000 - l.address
