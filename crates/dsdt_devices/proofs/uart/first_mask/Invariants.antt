use Rattle.std.proofs.Common.{◌≡◌, drop}
use Rattle.dsdt_devices.specs.BusTerms.{first_told}
use Rattle.dsdt_devices.specs.Told.{mask_in}
use Rattle.dsdt_devices.proofs.uart.first_mask.Given as goal

abbrev pub invariant-loop-item : goal.invariant-loop-item
invariant-loop-item l = first_told mask_in l.items ≡ first_told mask_in (drop l.item-index l.items)
