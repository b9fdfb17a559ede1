use Rattle.std.proofs.Common.{◌≡◌, drop}
use Rattle.dsdt_devices.specs.BusTerms.{first_told}
use Rattle.dsdt_devices.specs.Told.{buses_in}
use Rattle.dsdt_devices.proofs.bridge.last_bus_in.Given as goal

abbrev pub invariant-loop-item : goal.invariant-loop-item
invariant-loop-item l = first_told buses_in l.items ≡ first_told buses_in (drop l.item-index l.items)
