use Rattle.std.proofs.Common.{sym, ◌∙◌}
use Rattle.smbios_told.proofs.ToldSoFar.{none_more, first_of_all}
use Rattle.smbios_told.proofs.told.first_told.Goals as goal

pub returns-in-Some : goal.returns-in-Some
returns-in-Some g c =
    sym (first_of_all g.T.Told.told c.args.structures.now c.loop-structure.structure-index c.structure-item.result c.structure-item.result
    c.in-Some.part c.loop-structure-test.true c.structure-item.is c.loop-structure.invariant (sym c.in_ok-part.ensures ∙ c.in-Some.is))

pub loop-structure-preserved : goal.loop-structure-preserved
loop-structure-preserved g c =
    none_more g.T.Told.told c.args.structures.now c.loop-structure.structure-index c.structure-item.result c.structure-item.result
    c.loop-structure-test.true c.structure-item.is c.loop-structure.invariant (sym c.in_ok-part.ensures ∙ c.in_default.is)
