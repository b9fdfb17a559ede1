use Rattle.std.proofs.Common.{◌≡◌, take}
use Rattle.inventory_items.proofs.same.are_all_same.Given as goal

-- the items before this one are equal
abbrev pub invariant-loop-at : goal.invariant-loop-at
invariant-loop-at g l = take l.at l.left ≡ take l.at l.right
