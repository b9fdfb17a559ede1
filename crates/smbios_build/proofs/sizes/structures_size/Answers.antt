use Rattle.smbios_build.proofs.Counted.{one_structure_counted}
use Rattle.smbios_build.proofs.sizes.structures_size.Goals as goal

pub loop-structure-preserved : goal.loop-structure-preserved
loop-structure-preserved c =
    one_structure_counted c.args.structures.now c.loop-structure.structure-index c.structure-item.result c.loop-structure.total
    c.structure_size.result c.saturating_add-total.result 0xFFFFFFFFFFFFFFFF c.loop-structure-test.true c.structure-item.is
    c.loop-structure.invariant c.structure_size.ensures c.saturating_add-total.ensures
