use Rattle.std.proofs.Common.{◌≡◌, take}
use Rattle.smbios_install.specs.Selectors.{greatest_select}
use Rattle.smbios_install.proofs.selecting.greatest_select.Given as goal

abbrev pub invariant-loop-item : goal.invariant-loop-item
invariant-loop-item l = l.greatest ≡ greatest_select (take l.item-index l.items)
