use Rattle.std.proofs.Common.{◌≡◌, ◌+◌, ◌*◌, ℕ, replicate, arith, ap, refl, ◌∙◌}
use Rattle.vt_bytes.specs.Memory.{Memory, with_bytes}
use Rattle.guest_memory.proofs.Touches.{touches_none}
use Rattle.guest_memory.proofs.Touching.{touches_more}
use Rattle.firmware_load.specs.Inside.{Nowhere}
use Rattle.firmware_load.proofs.Refilled.{all_filled, filled_more, filled_none, segment_ram}
use Rattle.firmware_load.proofs.f_segment.refill.Goals as goal

pub loop-done-init : goal.loop-done-init
loop-done-init c = record {
  within = omega arith;
  so_far = filled_none c.args.memory.now.memory 0xF0000 (0 * 4096) refl;
  touches = touches_none Nowhere c.args.memory.now.memory.top c.args.memory.now.touched;
}

pub loop-done-preserved : goal.loop-done-preserved
loop-done-preserved c =
    let m = c.args.memory.now.memory in
    let now = c.loop-done.memory.memory in
    let done = c.loop-done.done in
    let k : ℕ = done * 4096 in
    let place : (240 + done) * 4096 ≡ 0xF0000 + k = omega arith in
    let count : k + 4096 ≡ (done + 1) * 4096 = omega arith in
    record {
      within = omega (arith, c.loop-done-test.true);
      so_far = filled_more m now c.refill_frame.new.memory.memory 0xF0000 k 4096 c.top-top.ensures.lawful
          (λ i below. segment_ram m.top (0xF0000 + i) (omega arith) (omega (arith, below, c.loop-done-test.true))) c.loop-done.invariant.so_far
          (c.refill_frame.ensures.after ∙ ap (λ address. with_bytes now address (replicate 4096 now.fill)) place)
          ∙ ap (λ n. with_bytes m 0xF0000 (replicate n m.fill)) count;
      touches = touches_more Nowhere Nowhere m.top _ _ _ _ c.loop-done.invariant.touches (ap (λ (m : Memory). m.top) c.loop-done.invariant.so_far)
          (λ address none. none) c.refill_frame.ensures.touches;
    }

pub returns-clause-after : goal.returns-clause-after
returns-clause-after c =
    all_filled c.args.memory.now.memory c.loop-done.memory.memory (c.loop-done.done * 4096)
    (omega (arith, c.loop-done.invariant.within, c.loop-done-test.false)) c.loop-done.invariant.so_far
