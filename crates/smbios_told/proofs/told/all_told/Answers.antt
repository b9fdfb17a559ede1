use Rattle.std.proofs.Common.{sym, ap, ◌++◌, ◌∙◌}
use Rattle.std.specs.Option.{option_to_list}
use Rattle.smbios_told.proofs.ToldSoFar.{told_more}
use Rattle.smbios_told.proofs.told.all_told.Goals as goal

pub loop-structure-preserved : goal.loop-structure-preserved
loop-structure-preserved g c =
    c.in_ok-push_told.ensures
    ∙ ap (λ parts. parts ++ option_to_list (g.T.Told.told c.structure-item.result.body)) c.loop-structure.invariant
    ∙ sym (told_more g.T.Told.told c.args.structures.now c.loop-structure.structure-index c.structure-item.result c.structure-item.result
    c.loop-structure-test.true c.structure-item.is)
