use Rattle.std.proofs.Common.{◌≡◌, take}
use Rattle.cfg_directory.specs.Items.{total_size}
use Rattle.smbios_install.proofs.checking.total_size.Given as goal

abbrev pub invariant-loop-item : goal.invariant-loop-item
invariant-loop-item l = l.total ≡ total_size (take l.item-index l.items)
