use Rattle.std.proofs.Common.{List, Some, map, sym, ap, ◌∙◌}
use Rattle.aml_terms.specs.declared.term.Term.{Term}
use Rattle.aml_terms.specs.Trees.{view}
use Rattle.dsdt_devices.proofs.Views.{device_seen}
use Rattle.dsdt_devices.proofs.bus_terms.in_device.Goals as goal

pub returns-in-Device : goal.returns-in-Device
returns-in-Device c =
    ap (λ (inside : List Term). Some (map view inside)) c.as_slice.ensures
    ∙ sym (device_seen c.args.name.now c.args.term.now c.in-Device.path c.in-Device.inside c.in-Device.is (sym c.is_beside.ensures ∙ c.if-is_beside.true))
