use Rattle.std.proofs.Common.{◌≡◌, ◌≤◌, length, true, arith, sym, ap, ◌∙◌}
use Rattle.std.proofs.lemmas.Option.{same_Some}
use Rattle.aml_terms.specs.declared.term.Term.{Term}
use Rattle.aml_terms.specs.Trees.{view}
use Rattle.aml_generation.specs.Generation.{is_address}
use Rattle.aml_generation.proofs.Walks.{past, stop, over, over_names}
use Rattle.aml_generation.proofs.generation.take_of_names.Goals as goal

pub returns-then-is_address : goal.returns-then-is_address
returns-then-is_address c =
    let same = same_Some c.get.result.now c.get_mut.result.now (sym c.get.ensures ∙ c.get_mut.ensures.item) in
    let held : is_address (view c.get_mut.result.now) ≡ true =
    ap (λ (t : Term). is_address (view t)) (sym same) ∙ sym c.is_address.ensures ∙ c.if-is_address.true in
    stop over_names c.args.terms.now c.terms.terms c.terms.place c.get_mut.result.now c.take_of_name.new.term c.take_of_name.result c.terms.invariant
    c.get_mut.ensures.item held c.take_of_name.ensures

pub terms-preserved : goal.terms-preserved
terms-preserved c =
    past is_address c.args.terms.now c.terms.terms c.terms.place c.get.result.now c.terms.invariant c.get.ensures
    (sym c.is_address.ensures ∙ c.if-is_address.false)

pub returns : goal.returns
returns c =
    let beyond : length c.terms.terms ≤ c.terms.place = omega (arith, ap length c.terms.invariant.same) in
    over over_names c.args.terms.now c.terms.terms c.terms.place c.terms.invariant beyond
