use Rattle.std.proofs.Common.{◌++◌, map, ap, ◌∙◌}
use Rattle.std.specs.List.{filter_map}
use Rattle.aml_terms.specs.Trees.{view}
use Rattle.dsdt_devices.specs.BusTerms.{bus_terms}
use Rattle.dsdt_devices.specs.Told.{uart_in}
use Rattle.dsdt_devices.proofs.BusTerms.{adds_there}
use Rattle.dsdt_devices.proofs.uart.uarts_in.Goals as goal

pub loop-term-preserved : goal.loop-term-preserved
loop-term-preserved c =
    adds_there uart_in c.args.terms.now c.loop-term.term-index c.term-item.result c.loop-term.uarts c.push_uarts.new.uarts
    (filter_map uart_in (bus_terms (map view c.args.terms.now))) c.loop-term-test.true c.term-item.is c.loop-term.invariant
    (c.in_ok-push_uarts.ensures ∙ ap (λ those. c.loop-term.uarts ++ filter_map uart_in those) c.bus_of.ensures)
