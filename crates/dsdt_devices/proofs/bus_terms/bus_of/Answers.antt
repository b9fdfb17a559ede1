use Rattle.std.proofs.Common.{map, sym, ap, ◌∙◌}
use Rattle.aml_terms.specs.Trees.{view}
use Rattle.dsdt_devices.proofs.Views.{bus_seen}
use Rattle.dsdt_devices.proofs.bus_terms.bus_of.Goals as goal

pub returns-in-Scope : goal.returns-in-Scope
returns-in-Scope c =
    ap (map view) c.as_slice.ensures
    ∙ sym (bus_seen c.args.term.now c.in-Scope.path c.in-Scope.inside c.in-Scope.is (sym c.is_system_bus.ensures ∙ c.if-is_system_bus.true))
