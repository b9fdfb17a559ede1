use Rattle.std.proofs.Common.{◌≡◌, map, drop}
use Rattle.aml_terms.specs.Trees.{view}
use Rattle.dsdt_devices.specs.BusTerms.{first_told, value_in}
use Rattle.dsdt_devices.proofs.bus_terms.first_value.Given as goal

abbrev pub invariant-loop-term : goal.invariant-loop-term
invariant-loop-term l =
    first_told (value_in l.name) (map view l.terms) ≡ first_told (value_in l.name) (map view (drop l.term-index l.terms))
