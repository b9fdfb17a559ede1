use Rattle.std.proofs.Common.{◌≡◌, ◌++◌, cond, drop}
use Rattle.std.specs.List.{filter_map}
use Rattle.dsdt_devices.specs.Told.{window_in, but_buses, windows_in}
use Rattle.dsdt_devices.proofs.bridge.windows_in.Given as goal

abbrev pub invariant-loop-item : goal.invariant-loop-item
invariant-loop-item l =
    l.windows ++ filter_map window_in (cond l.is_told (drop l.item-index l.items) (but_buses (drop l.item-index l.items))) ≡ windows_in l.items
