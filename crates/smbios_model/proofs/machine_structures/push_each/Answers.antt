use Rattle.std.proofs.Common.{arith, refl}
use Rattle.smbios_model.proofs.PushedParts.{one_pushed}
use Rattle.smbios_model.proofs.machine_structures.push_each.Goals as goal

pub loop-part-preserved : goal.loop-part-preserved
loop-part-preserved g c = record {
  told = one_pushed g.P.Told.says c.args.first c.loop-part.handle c.loop-part.part-index c.as_slice-part-items.result.now
      c.part-item.result c.part-item.result (g.P.Told.says c.part-item.result)
      c.args.structures.now c.loop-part.structures c.push_told.new.structures c.loop-part-test.true c.part-item.is
      c.loop-part.invariant.counts refl c.loop-part.invariant.told c.in_ok-push_told.ensures;
  counts = omega arith;
}
