use Rattle.std.proofs.Common.{rules, ◌≡◌, map, option_map, sym, ap, ◌∙◌}
use Rattle.aml_terms.specs.declared.term.Term.TheFolds.{the_lemmas}
use Rattle.aml_terms.specs.Trees.{view, views}
use Rattle.dsdt_devices.specs.BusTerms.{each_of}
use Rattle.dsdt_devices.specs.Told.{rows_of}
use Rattle.dsdt_devices.proofs.Views.{each_of-views}
use Rattle.dsdt_devices.proofs.bridge.rows_of.Goals as goal

pub returns-in-Some-Package : goal.returns-in-Some-Package
returns-in-Some-Package c =
    let seen : each_of (views c.in-Some-Package.rows) ≡ rows_of (option_map (λ value. view value.now) c.args.value) = search (rules, the_lemmas) in
    ap (map view) c.as_slice.ensures ∙ sym (each_of-views c.in-Some-Package.rows) ∙ seen
