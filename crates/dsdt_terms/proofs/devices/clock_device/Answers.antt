use Rattle.std.proofs.Common.{[], ◌∷◌, ◌++◌, codes, ap₂, ◌∙◌}
use Rattle.dsdt_terms.specs.Names.{hardware_id, resources, real_time_clock}
use Rattle.dsdt_terms.specs.Devices.{port_item, irq_item}
use Rattle.dsdt_terms.proofs.Pushed.{of_values, two_pushed}
use Rattle.dsdt_terms.proofs.devices.clock_device.Goals as goal

pub returns : goal.returns
returns c =
    let id = hardware_id real_time_clock in
    let ports = resources (port_item 0x70 2 ∷ irq_item 8 ∷ []) in
    of_values c.device.result (codes "RTC_") c.push_resources.new.values (id ∷ ports ∷ [])
    (two_pushed c.new-values.result c.push_hardware_id.new.values c.push_resources.new.values [] id ports c.new-values.ensures c.in_ok-push_hardware_id.ensures
    (c.in_ok-push_resources.ensures
    ∙ ap₂ (λ port irq. c.push_hardware_id.new.values ++ resources (port ∷ irq ∷ []) ∷ []) c.port_item.ensures c.irq_item.ensures)) c.device.ensures
