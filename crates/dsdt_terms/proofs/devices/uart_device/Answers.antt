use Rattle.std.proofs.Common.{◌+◌, [], ◌∷◌, ◌++◌, codes, ap, ap₂, ◌∙◌}
use Rattle.dsdt_terms.specs.Names.{hardware_id, unique_id, resources, serial_port}
use Rattle.dsdt_terms.specs.Devices.{port_item, irq_item}
use Rattle.dsdt_terms.proofs.Pushed.{of_values, three_pushed}
use Rattle.dsdt_terms.proofs.devices.uart_device.Goals as goal

pub returns : goal.returns
returns c =
    let uart = c.args.uart in
    let id = hardware_id serial_port in
    let number = unique_id (c.args.place + 1) in
    let ports = resources (port_item uart.port 8 ∷ irq_item uart.irq ∷ []) in
    of_values c.device.result (codes "COM" ++ (0x31 + c.args.place) ∷ []) c.push_resources.new.values (id ∷ number ∷ ports ∷ [])
    (three_pushed c.new-values.result c.push_hardware_id.new.values c.push_unique_id.new.values c.push_resources.new.values [] id number ports
    c.new-values.ensures c.in_ok-push_hardware_id.ensures
    (c.in_ok-push_unique_id.ensures ∙ ap (λ n. c.push_hardware_id.new.values ++ unique_id (n + 1) ∷ []) c.from.ensures)
    (c.in_ok-push_resources.ensures
    ∙ ap₂ (λ port irq. c.push_unique_id.new.values ++ resources (port ∷ irq ∷ []) ∷ []) c.port_item.ensures c.irq_item.ensures)) c.device.ensures
