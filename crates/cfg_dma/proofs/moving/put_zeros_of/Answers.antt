use Rattle.std.proofs.Common.{◌≡◌, ◌+◌, ◌-◌, arith, ap, sym, subst}
use Rattle.vt_bytes.specs.Memory.{Memory, IsRam}
use Rattle.vt_bytes.proofs.Memories.{with_none}
use Rattle.guest_memory.proofs.Touches.{touches_none}
use Rattle.cfg_dma.specs.Touching.{IsAmong}
use Rattle.guest_memory.proofs.Touching.{touches_more}
use Rattle.cfg_dma.proofs.Runs.{zeros_more}
use Rattle.cfg_dma.proofs.moving.put_zeros_of.Goals as goal

pub loop-done-init : goal.loop-done-init
loop-done-init c =
    let its_top = c.args.memory.now.memory.top in
    record {
      within = omega arith;
      so_far = sym (with_none c.args.memory.now.memory c.args.address);
      touches = touches_none (IsAmong c.args.address c.args.count) its_top c.args.memory.now.touched;
    }

pub put_some_zeros-done-requires-clause-ram : goal.put_some_zeros-done-requires-clause-ram
put_some_zeros-done-requires-clause-ram c = λ i below.
    let next : c.args.address + (c.loop-done.done + i) ≡ c.args.address + c.loop-done.done + i = omega arith in
    subst (λ (m : Memory). IsRam m.top (c.args.address + c.loop-done.done + i)) (sym c.loop-done.invariant.so_far)
    (subst (IsRam c.args.memory.now.memory.top) next (c.requires.ram (c.loop-done.done + i) (omega arith)))

pub loop-done-preserved : goal.loop-done-preserved
loop-done-preserved c = record {
  within = omega arith;
  so_far = zeros_more c.args.memory.now.memory c.loop-done.memory.memory c.put_some_zeros-done.new.memory.memory c.args.address c.loop-done.done
      c.put_some_zeros-done.result
      c.args.count c.top-top.ensures.lawful c.requires.ram (omega arith) c.loop-done.invariant.so_far c.put_some_zeros-done.ensures.after;
  touches = touches_more (IsAmong c.args.address c.args.count) (IsAmong (c.args.address + c.loop-done.done) (c.args.count - c.loop-done.done))
      c.args.memory.now.memory.top _ _ _ _ c.loop-done.invariant.touches (ap (λ (m : Memory). m.top) c.loop-done.invariant.so_far)
      (λ place its. (omega (arith, its.0), omega (arith, its.0, its.1))) c.put_some_zeros-done.ensures.touches;
}
