use Rattle.std.proofs.Common.{arith, ap, ◌∙◌, List}
use Rattle.aml_terms.specs.declared.term.Term.{Term}
use Rattle.aml_terms.specs.Trees.{pack, views}
use Rattle.aml_generation.proofs.Halves.{ArePut, zeros_put}
use Rattle.aml_generation.proofs.address.take_of_halves.Goals as goal

pub set-requires-then-is_some : goal.set-requires-then-is_some
set-requires-then-is_some c =
    let put : ArePut c.args.halves.now c.set.new.self c.address_in-address.result =
    zeros_put c.args.halves.now c.as_slice.result.now c.set.new.self c.address_in-address.result c.is_some.result c.as_slice.ensures
    c.address_in-address.ensures c.is_some.ensures c.if-is_some.true c.set.ensures in
    omega (arith, put.two)

pub returns-then-is_some : goal.returns-then-is_some
returns-then-is_some c =
    let put : ArePut c.args.halves.now c.set.new.self c.address_in-address.result =
    zeros_put c.args.halves.now c.as_slice.result.now c.set.new.self c.address_in-address.result c.is_some.result c.as_slice.ensures
    c.address_in-address.ensures c.is_some.ensures c.if-is_some.true c.set.ensures in
    ap (λ (left : List Term). (c.address_in-address.result, pack (views left))) c.set-then-is_some.ensures ∙ put.put
