use Rattle.std.proofs.Common.{◌*◌, ℕ, replicate, arith, ap, ap₂, sym, refl, ◌∙◌}
use Rattle.std.proofs.lemmas.List.{length-replicate}
use Rattle.guest_memory.specs.Touched.{touched_at}
use Rattle.vt_bytes.specs.Memory.{with_bytes}
use Rattle.firmware_load.proofs.Refilled.{blank_filled, touched_again}
use Rattle.firmware_load.proofs.f_segment.refill_frame.Goals as goal

pub returns-then-touched-clause-after : goal.returns-then-touched-clause-after
returns-then-touched-clause-after c =
    let m = c.args.memory.now.memory in
    c.copy_in.ensures.after
    ∙ ap (λ fill. with_bytes m (c.from.result * 4096) (replicate 4096 fill)) c.fill-fill.ensures
    ∙ ap (λ frame. with_bytes m (frame * 4096) (replicate 4096 m.fill)) c.from.ensures

pub returns-then-touched-clause-touches : goal.returns-then-touched-clause-touches
returns-then-touched-clause-touches c =
    let its_top = c.args.memory.now.memory.top in
    let before = c.args.memory.now.touched in
    touched_again its_top c.args.frame 4096 before c.copy_in.new.self.touched c.top-top.ensures.lawful.top c.requires.below (omega arith)
    (sym c.touched.ensures.told ∙ c.if-touched.true)
    (c.copy_in.ensures.touched
    ∙ ap₂ (λ frame count. touched_at its_top (frame * 4096) count before) c.from.ensures (length-replicate {A = ℕ} 4096 c.fill-fill.result))

pub returns-else-touched-clause-after : goal.returns-else-touched-clause-after
returns-else-touched-clause-after c =
    blank_filled c.args.memory.now.memory c.args.frame 4096 c.top-top.ensures.lawful c.requires.from c.requires.below refl
    (c.touched.ensures.blank c.if-touched.false)
