use Rattle.std.proofs.Common.{◌≡◌, ◌+◌, take, arith, ap, subst, sym, ◌∙◌}
use Rattle.std.proofs.lemmas.List.{take_rest}
use Rattle.vt_bytes.specs.Memory.{Memory, IsRam, with_bytes}
use Rattle.guest_memory.specs.Touched.{touched_at}
use Rattle.guest_memory.proofs.Runs.{none_put, one_more_put}
use Rattle.guest_memory.proofs.Touches.{touched_more, touched_nothing}
use Rattle.guest_memory.proofs.memory.GuestMemory.copy_in.Goals as goal

pub loop-done-init : goal.loop-done-init
loop-done-init c = record {
  within = omega arith;
  so_far = none_put c.args.self.now.memory c.args.address;
  touched = sym (touched_nothing c.args.self.now.memory.top c.args.address c.args.self.now.touched);
}

pub put_in_frame-done-requires-clause-ram : goal.put_in_frame-done-requires-clause-ram
put_in_frame-done-requires-clause-ram c =
    subst (λ (m : Memory). IsRam m.top (c.args.address + c.loop-done.done)) (sym c.loop-done.invariant.so_far)
    (c.requires c.loop-done.done c.loop-done-test.true)

pub loop-done-preserved : goal.loop-done-preserved
loop-done-preserved c =
    let held = c.args.self.now in let now = c.loop-done.self in let done = c.loop-done.done in let more = c.put_in_frame-done in
    let top : now.memory.top ≡ held.memory.top = ap (λ (m : Memory). m.top) c.loop-done.invariant.so_far in
    record {
      within = omega arith;
      so_far = one_more_put held.memory now.memory _ c.args.address c.args.bytes.now done more.result
          c.top-top.ensures.lawful c.requires (omega arith) c.loop-done.invariant.so_far
          (more.ensures.after ∙ ap (λ rest. with_bytes now.memory (c.args.address + done) (take more.result rest)) (take_rest c.args.bytes.now done));
      touched = more.ensures.touched ∙ ap (λ t. touched_at t (c.args.address + done) more.result now.touched) top
          ∙ ap (touched_at held.memory.top (c.args.address + done) more.result) c.loop-done.invariant.touched
          ∙ touched_more held.memory.top c.args.address done more.result held.touched;
    }
