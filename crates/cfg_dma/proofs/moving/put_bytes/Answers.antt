use Rattle.std.proofs.Common.{◌+◌, length, arith, ap, refl, sym, subst, ◌∙◌}
use Rattle.vt_bytes.specs.Memory.{IsRam, bytes_at}
use Rattle.cfg_directory.specs.Items.{with_bytes_at}
use Rattle.cfg_dma.proofs.Written.{written_none, fits_less, fits_small}
use Rattle.cfg_dma.proofs.Runs.{written_more, fits_left}
use Rattle.cfg_dma.proofs.moving.put_bytes.Goals as goal
use Rattle.vt_bytes.proofs.Bytes.{bytes_at-none}

pub loop-done-init : goal.loop-done-init
loop-done-init c = record {
  within = omega arith;
  so_far = sym (ap (with_bytes_at c.args.items.now c.args.select c.args.offset) (sym (bytes_at-none c.args.memory.now.memory c.args.address 0 refl))
      ∙ written_none c.args.items.now c.args.select c.args.offset);
}

pub part_in_frame-part-requires-clause-ram : goal.part_in_frame-part-requires-clause-ram
part_in_frame-part-requires-clause-ram c =
    subst (λ k. IsRam c.args.memory.now.memory.top (c.args.address + k)) (sym c.from.ensures) (c.requires.ram c.loop-done.done c.loop-done-test.true)

pub overflow_add-offset : goal.overflow_add-offset
overflow_add-offset c = omega (arith, fits_small c.args.items.now c.args.select (c.args.offset + c.args.count) c.requires.lawful c.requires.fits)

pub write_at-requires : goal.write_at-requires
write_at-requires c =
    fits_less c.loop-done.items c.args.select (c.args.offset + c.loop-done.done + length c.part_in_frame-part.result.now) (c.args.offset + c.args.count)
    (omega arith)
    (fits_left c.args.items.now c.loop-done.items c.args.memory.now.memory c.args.select c.args.offset c.args.address c.loop-done.done c.args.count
    c.requires.lawful.distinct c.requires.fits c.loop-done.invariant.within c.loop-done.invariant.so_far)

pub loop-done-preserved : goal.loop-done-preserved
loop-done-preserved c =
    let part = c.part_in_frame-part.result.now in
    record {
      within = omega arith;
      so_far = written_more c.args.items.now c.loop-done.items c.write_at.new.self c.args.memory.now.memory c.args.select c.args.offset c.args.address
          c.loop-done.done (length part) part
          (c.part_in_frame-part.ensures.value ∙ ap (λ k. bytes_at c.args.memory.now.memory (c.args.address + k) (length part)) c.from.ensures)
          c.loop-done.invariant.so_far c.write_at.ensures;
    }
