use Rattle.std.proofs.Common.{◌≡◌, replicate}
use Rattle.generated_machine.specs.Generated.{dimm}
use Rattle.generated_machine.proofs.parts.dimms.Given as goal

abbrev pub invariant-loop-node : goal.invariant-loop-node
invariant-loop-node l = l.list ≡ replicate l._node (dimm l.processors)
