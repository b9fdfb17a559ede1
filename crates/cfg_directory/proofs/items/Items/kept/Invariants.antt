use Rattle.std.proofs.Common.{◌≡◌, take}
use Rattle.cfg_directory.specs.Restored.{kept_of}
use Rattle.cfg_directory.proofs.items.Items.kept.Given as goal

abbrev pub invariant-loop-item : goal.invariant-loop-item
invariant-loop-item l = l.kept ≡ kept_of (take l.item-index l.items)
