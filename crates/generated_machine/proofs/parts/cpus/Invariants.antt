use Rattle.std.proofs.Common.{◌≡◌, map}
use Rattle.std.specs.List.{range_with_len}
use Rattle.generated_machine.specs.Generated.{cpu_at, node_count}
use Rattle.generated_machine.proofs.parts.cpus.Given as goal

abbrev pub invariant-loop-position : goal.invariant-loop-position
invariant-loop-position l = l.list ≡ map (cpu_at (node_count l.processors)) (range_with_len 0 l.position)
