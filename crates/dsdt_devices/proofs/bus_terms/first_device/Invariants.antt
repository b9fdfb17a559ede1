use Rattle.std.proofs.Common.{◌≡◌, map, drop}
use Rattle.aml_terms.specs.Trees.{view}
use Rattle.dsdt_devices.specs.BusTerms.{bus_terms, first_told, in_device}
use Rattle.dsdt_devices.proofs.bus_terms.first_device.Given as goal

abbrev pub invariant-loop-term : goal.invariant-loop-term
invariant-loop-term l =
    first_told (in_device l.name) (bus_terms (map view l.terms))
    ≡ first_told (in_device l.name) (bus_terms (map view (drop l.term-index l.terms)))
