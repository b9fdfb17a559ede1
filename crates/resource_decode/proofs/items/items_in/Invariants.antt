use Rattle.std.proofs.Common.{◌≡◌, ◌++◌, length}
use Rattle.resource_decode.specs.Items.{items_in}
use Rattle.resource_decode.proofs.items.items_in.Given as goal

abbrev pub invariant-loop-items : goal.invariant-loop-items
invariant-loop-items l = l.items ++ items_in l.left ≡ items_in l.bytes

abbrev pub decreases-loop-items : goal.decreases-loop-items
decreases-loop-items l = length l.left
