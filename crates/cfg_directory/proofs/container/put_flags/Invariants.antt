use Rattle.std.proofs.Common.{◌≡◌, ◌++◌, map, take}
use Rattle.cfg_directory.specs.declared.item.Item.{Item}
use Rattle.cfg_directory.specs.Container.{flag_of}
use Rattle.cfg_directory.proofs.container.put_flags.Given as goal

abbrev pub invariant-loop-item : goal.invariant-loop-item
invariant-loop-item l = l.bytes ≡ l.fn.bytes ++ map (λ (item : Item). flag_of item.writable) (take l.item-index l.items)
