use Rattle.std.proofs.Common.{◌≡◌, ◌++◌, map, codes, drop}
use Rattle.aml_terms.specs.Trees.{view}
use Rattle.dsdt_devices.specs.BusTerms.{first_told, value_in}
use Rattle.dsdt_devices.specs.Told.{rows_of, route_in}
use Rattle.dsdt_devices.proofs.bridge.routes_in.Given as goal

abbrev pub invariant-loop-row : goal.invariant-loop-row
invariant-loop-row l =
    l.routes ++ map route_in (map view (drop l.row-index l.row-items))
    ≡ map route_in (rows_of (first_told (value_in (codes "_PRT")) (map view l.inside)))
