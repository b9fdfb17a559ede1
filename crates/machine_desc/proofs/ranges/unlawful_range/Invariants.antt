use Rattle.std.proofs.Common.{◌≡◌, drop}
use Rattle.machine_desc.proofs.InOrder.{first_unlawful}
use Rattle.machine_desc.proofs.ranges.unlawful_range.Given as goal

-- the ranges that are left decide
abbrev pub invariant-loop-index : goal.invariant-loop-index
invariant-loop-index l = first_unlawful l.index l.end (drop l.index l.ranges) ≡ first_unlawful 0 0 l.ranges
