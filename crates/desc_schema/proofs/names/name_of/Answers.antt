use Rattle.std.proofs.Common.{rules, tests, ◌==◌}
use Rattle.std.proofs.lemmas.Iterator.{YieldsList-from_slice}
use Rattle.std.proofs.lemmas.Iterator.Search.{find_from_yields_List}
use Rattle.desc_schema.specs.declared.schema.Key.{Key}
use Rattle.desc_schema.proofs.Named.{name_found}
use Rattle.desc_schema.proofs.names.name_of.Goals as goal

pub returns-in-Some : goal.returns-in-Some
returns-in-Some c =
    let found = find_from_yields_List (λ (key : Key). key.number == c.args.number) _ _ c.find.result c.find.ensures.ran
    (YieldsList-from_slice c.args.keys.now cc) (λ x b q k. search (rules, tests)) in
    name_found c.args.number c.args.keys.now _ (rw c.in-Some.is at found)

pub returns-in-None : goal.returns-in-None
returns-in-None c =
    let found = find_from_yields_List (λ (key : Key). key.number == c.args.number) _ _ c.find.result c.find.ensures.ran
    (YieldsList-from_slice c.args.keys.now cc) (λ x b q k. search (rules, tests)) in
    name_found c.args.number c.args.keys.now _ (rw c.in-None.is at found)
