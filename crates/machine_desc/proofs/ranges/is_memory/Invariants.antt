use Rattle.std.proofs.Common.{◌≡◌, drop, filter}
use Rattle.machine_desc.specs.Rules.{are_joined, is_low, is_memory}
use Rattle.machine_desc.proofs.ranges.is_memory.Given as goal

-- the ranges that are left decide
abbrev pub invariant-loop-range : goal.invariant-loop-range
invariant-loop-range l = are_joined l.from l.top_mib (filter is_low (drop l.range-index l.ranges)) ≡ is_memory l.top_mib l.ranges
