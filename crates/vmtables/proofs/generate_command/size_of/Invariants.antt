use Rattle.std.proofs.Common.{◌≡◌, take}
use Rattle.cfg_directory.specs.Items.{total_size}
use Rattle.vmtables.proofs.generate_command.size_of.Given as goal

abbrev pub invariant-loop-item : goal.invariant-loop-item
invariant-loop-item l = l.size ≡ total_size (take l.item-index l.items)
