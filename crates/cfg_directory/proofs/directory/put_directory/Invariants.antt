use Rattle.std.proofs.Common.{◌≡◌, ◌++◌, length, take}
use Rattle.std.specs.List.{flat_map, AllByRecursion}
use Rattle.vt_bytes.specs.Numbers.{be_bytes}
use Rattle.vt_outside.specs.Name.{IsName}
use Rattle.cfg_directory.specs.declared.item.Item.{Item}
use Rattle.cfg_directory.specs.Items.{entry_bytes}
use Rattle.cfg_directory.proofs.directory.put_directory.Given as goal

abbrev pub invariant-loop-item : goal.invariant-loop-item
invariant-loop-item l = record {
  entries : l.bytes ≡ l.fn.bytes ++ (be_bytes 4 (length l.items) ++ flat_map entry_bytes (take l.item-index l.items));
  names : AllByRecursion (λ (item : Item). IsName item.name) (take l.item-index l.items);
}
