use Rattle.std.proofs.Common.{◌≡◌, map}
use Rattle.std.specs.List.{range_with_len}
use Rattle.generated_machine.specs.Generated.{socket_at}
use Rattle.generated_machine.proofs.parts.sockets.Given as goal

abbrev pub invariant-loop-position : goal.invariant-loop-position
invariant-loop-position l = l.list ≡ map (socket_at l.processors) (range_with_len 0 l.position)
