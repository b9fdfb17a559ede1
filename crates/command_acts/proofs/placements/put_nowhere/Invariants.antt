use Rattle.std.proofs.Common.{◌≡◌, ◌-◌, ◌++◌, ◌≤◌, ℕ, Option, None, length, drop, replicate, vec_len}
use Rattle.command_acts.proofs.placements.put_nowhere.Given as goal

abbrev pub invariant-loop-index : goal.invariant-loop-index
invariant-loop-index l = record {
  front : l.places.items ≡ replicate {A = Option ℕ} l.index None ++ drop l.index l.fn.places.items;
  within : l.index ≤ length l.fn.places.items;
}

abbrev pub decreases-loop-index : goal.decreases-loop-index
decreases-loop-index l = length l.fn.places.items - l.index
