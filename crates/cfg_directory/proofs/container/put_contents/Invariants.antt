use Rattle.std.proofs.Common.{◌≡◌, ◌++◌, take}
use Rattle.std.specs.List.{flat_map}
use Rattle.cfg_directory.specs.declared.item.Item.{Item}
use Rattle.cfg_directory.proofs.container.put_contents.Given as goal

abbrev pub invariant-loop-item : goal.invariant-loop-item
invariant-loop-item l = l.bytes ≡ l.fn.bytes ++ flat_map (λ (item : Item). item.bytes) (take l.item-index l.items)
