use Rattle.std.proofs.Common.{[], ◌∷◌, ◌++◌, codes, map, ap, ◌∙◌}
use Rattle.aml_terms.specs.declared.term.Term.TheVariants.{Int, Package}
use Rattle.dsdt_terms.specs.Names.{name, unique_id, resources}
use Rattle.dsdt_terms.specs.Bridge.{bridge_ids, bridge_items, route_term}
use Rattle.dsdt_terms.proofs.Pushed.{of_values, four_pushed}
use Rattle.dsdt_terms.proofs.bridge.bridge_device.Goals as goal

pub returns : goal.returns
returns c =
    let bridge = c.args.bridge.now in
    let number = unique_id 0 in
    let base = name (codes "_BBN") (Int 0) in
    let spaces = resources (bridge_items bridge) in
    let table = name (codes "_PRT") (Package (map route_term bridge.routes)) in
    of_values c.device.result (codes "PCI0") c.push_routes.new.values (bridge_ids bridge.ecam ++ number ∷ base ∷ spaces ∷ table ∷ [])
    (four_pushed c.push_ids.new.values c.push_unique_id.new.values c.push_name.new.values c.push_resources.new.values c.push_routes.new.values
    (bridge_ids bridge.ecam) number base spaces table (c.in_ok-push_ids.ensures ∙ ap (λ those. those ++ bridge_ids bridge.ecam) c.new-values.ensures)
    c.in_ok-push_unique_id.ensures c.in_ok-push_name.ensures
    (c.in_ok-push_resources.ensures
    ∙ ap (λ items. c.push_name.new.values ++ resources items ∷ []) (c.as_slice.ensures ∙ c.in_ok-items.ensures))
    (c.in_ok-push_routes.ensures
    ∙ ap (λ routes. c.push_resources.new.values ++ name (codes "_PRT") (Package (map route_term routes)) ∷ []) c.as_slice-2.ensures))
    c.device.ensures
