use Rattle.std.proofs.Common.{List, Some, map, sym, ap, ◌∙◌}
use Rattle.aml_terms.specs.declared.term.Term.{Term}
use Rattle.aml_terms.specs.Trees.{view}
use Rattle.dsdt_devices.specs.Told.{uart_of, resources_in}
use Rattle.dsdt_devices.proofs.Views.{uart_seen}
use Rattle.dsdt_devices.proofs.uart.uart_in.Goals as goal

pub returns-in_ok-items-in-Device : goal.returns-in_ok-items-in-Device
returns-in_ok-items-in-Device c =
    let items = c.as_slice-in-Device.ensures ∙ c.in_ok-items-in-Device.ensures
    ∙ ap (λ (inside : List Term). resources_in (map view inside)) c.as_slice.ensures in
    ap Some (c.uart_of.ensures ∙ ap uart_of items)
    ∙ sym (uart_seen c.args.term.now c.in-Device.path c.in-Device.inside c.in-Device.is (sym c.is_uart.ensures ∙ c.if-is_uart.true))
