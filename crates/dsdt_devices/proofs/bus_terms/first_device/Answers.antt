use Rattle.std.proofs.Common.{map, sym, ap, ◌∙◌}
use Rattle.aml_terms.specs.Trees.{view}
use Rattle.dsdt_devices.specs.BusTerms.{first_told, in_device}
use Rattle.dsdt_devices.proofs.BusTerms.{ends_there, goes_on}
use Rattle.dsdt_devices.proofs.bus_terms.first_device.Goals as goal

pub returns-in-Some : goal.returns-in-Some
returns-in-Some c =
    let told = in_device c.args.name.now in
    sym (c.loop-term.invariant ∙ ends_there told c.args.terms.now c.loop-term.term-index c.term-item.result (map view c.in-Some.inside.now)
    c.loop-term-test.true c.term-item.is (sym (c.in-Some.ensures ∙ ap (first_told told) c.bus_of.ensures)))

pub loop-term-preserved : goal.loop-term-preserved
loop-term-preserved c =
    let told = in_device c.args.name.now in
    c.loop-term.invariant ∙ goes_on told c.args.terms.now c.loop-term.term-index c.term-item.result c.loop-term-test.true c.term-item.is
    (sym (c.in_default.ensures ∙ ap (first_told told) c.bus_of.ensures))
