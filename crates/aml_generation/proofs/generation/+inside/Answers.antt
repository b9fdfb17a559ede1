use Rattle.std.proofs.Common.{rules, ◌≡◌, ◌≤◌, length, arith, ap}
use Rattle.aml_terms.specs.declared.term.Term.TheFolds.{the_lemmas}
use Rattle.aml_generation.specs.Generation.{taken_inside}
use Rattle.aml_generation.proofs.Kept.{keeps_inside}
use Rattle.aml_generation.proofs.Scopes.{IsBare, bare_stays, bare_taken}
use Rattle.aml_generation.proofs.Walks.{on, over, over_terms, stop_some}
use Rattle.aml_generation.proofs.generation.+inside.Goals as goal

pub take_generation-returns-in-Some : goal.take_generation-returns-in-Some
take_generation-returns-in-Some t c =
    stop_some over_terms c.args.terms.now c.terms.terms c.terms.place c.get_mut.result.now c.take_inside.new.term c.take_inside.result
    c.in-Some.address c.terms.invariant c.get_mut.ensures.item c.take_inside.ensures c.in-Some.is

pub take_generation-terms-preserved : goal.take_generation-terms-preserved
take_generation-terms-preserved t c =
    on taken_inside keeps_inside c.args.terms.now c.terms.terms c.terms.place c.get_mut.result.now c.take_inside.new.term c.take_inside.result
    c.terms.invariant c.get_mut.ensures.item c.take_inside.ensures c.in_default.is

pub take_generation-returns : goal.take_generation-returns
take_generation-returns t c =
    let beyond : length c.terms.terms ≤ c.terms.place = omega (arith, ap length c.terms.invariant.same) in
    over over_terms c.args.terms.now c.terms.terms c.terms.place c.terms.invariant beyond

pub take_inside-take_generation-requires : goal.take_inside-take_generation-requires
take_inside-take_generation-requires t c =
    let bare : IsBare c.in-Scope.path _ c.in-Scope.terms _ c.take_of_bus.new.terms c.take_of_bus.result = record {
      path_is = c.in-Scope.path-is;
      terms_are = c.in-Scope.terms-is;
      left = c.take_of_bus.ensures;
      none = c.in_default-take_of_bus.is;
    } in
    let same : c.take_of_bus.new.terms ≡ c.in-Scope.terms = bare_stays _ _ _ _ _ _ bare in
    rw same (search (rules, the_lemmas))

pub take_inside-returns-in_default-take_of_bus : goal.take_inside-returns-in_default-take_of_bus
take_inside-returns-in_default-take_of_bus t c =
    let bare : IsBare c.in-Scope.path _ c.in-Scope.terms _ c.take_of_bus.new.terms c.take_of_bus.result = record {
      path_is = c.in-Scope.path-is;
      terms_are = c.in-Scope.terms-is;
      left = c.take_of_bus.ensures;
      none = c.in_default-take_of_bus.is;
    } in
    bare_taken c.args.term.now c.in-Scope.path _ c.in-Scope.terms _ c.take_of_bus.new.terms c.take_generation.new.terms c.take_of_bus.result
    c.take_generation.result c.in-Scope.is bare c.take_generation.ensures
