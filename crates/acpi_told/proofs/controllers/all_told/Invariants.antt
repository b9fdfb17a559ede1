use Rattle.std.proofs.Common.{◌≡◌, take}
use Rattle.std.specs.List.{filter_map}
use Rattle.acpi_told.proofs.controllers.all_told.Given as goal

abbrev pub invariant-loop-entry : goal.invariant-loop-entry
invariant-loop-entry g l = l.parts ≡ filter_map g.P.Told.told (take l.entry-index l.entries)
