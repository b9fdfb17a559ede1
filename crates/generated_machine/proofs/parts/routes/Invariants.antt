use Rattle.std.proofs.Common.{◌≡◌, map}
use Rattle.std.specs.List.{range_with_len}
use Rattle.generated_machine.specs.Generated.{route_at}
use Rattle.generated_machine.proofs.parts.routes.Given as goal

abbrev pub invariant-loop-place : goal.invariant-loop-place
invariant-loop-place l = l.list ≡ map (route_at) (range_with_len 0 l.place)
