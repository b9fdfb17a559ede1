use Rattle.std.proofs.Common.{◌≡◌, ◌++◌, map, drop}
use Rattle.std.specs.List.{filter_map}
use Rattle.aml_terms.specs.Trees.{view}
use Rattle.dsdt_devices.specs.Told.{uart_in}
use Rattle.dsdt_devices.proofs.uart.push_uarts.Given as goal

abbrev pub invariant-loop-term : goal.invariant-loop-term
invariant-loop-term l =
    l.uarts ++ filter_map uart_in (map view (drop l.term-index l.terms)) ≡ l.fn.uarts ++ filter_map uart_in (map view l.terms)
