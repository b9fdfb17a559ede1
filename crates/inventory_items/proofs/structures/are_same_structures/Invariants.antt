use Rattle.std.proofs.Common.{◌≡◌, take}
use Rattle.inventory_items.proofs.structures.are_same_structures.Given as goal

-- the structures before this one are equal
abbrev pub invariant-loop-at : goal.invariant-loop-at
invariant-loop-at l = take l.at l.left ≡ take l.at l.right
