use Rattle.std.proofs.Common.{◌≡◌, true, inl, arith, refl, ap, replicate, ◌∙◌}
use Rattle.vt_bytes.specs.Memory.{Memory, with_bytes}
use Rattle.load_states.specs.Guarded.{descriptor_at, buffer_at, buffer_size, is_work}
use Rattle.guest_memory.proofs.Touching.{touches_put, touches_more}
use Rattle.load_states.proofs.Touching.{in_descriptor_is_work, in_buffer_is_work}
use Rattle.firmware_load.proofs.Touching.{own_touched}
use Rattle.firmware_load.proofs.guest.Guest.clear.Goals as goal

pub returns-clause-memory : goal.returns-clause-memory
returns-clause-memory c =
    c.copy_in-2.ensures.after
    ∙ ap (λ m. with_bytes m buffer_at (replicate buffer_size c.fill-fill.result)) c.copy_in.ensures.after
    ∙ ap (λ fill. with_bytes (with_bytes c.args.self.now.memory.memory descriptor_at (replicate 16 fill)) buffer_at (replicate buffer_size fill))
    c.fill-fill.ensures

pub returns-clause-touches : goal.returns-clause-touches
returns-clause-touches c =
    let before = c.args.self.now in
    let its_top = before.memory.memory.top in
    let middle : c.copy_in.new.self.memory.top ≡ its_top = ap (λ (m : Memory). m.top) c.copy_in.ensures.after in
    own_touched (λ address. is_work address ≡ true) before _ refl (ap (λ (m : Memory). m.top) c.copy_in-2.ensures.after ∙ middle) (λ address work. inl work)
    (touches_more (λ address. is_work address ≡ true) (λ address. is_work address ≡ true) its_top _ _ _ _
    (touches_put (λ address. is_work address ≡ true) its_top descriptor_at _ _ _ c.copy_in.ensures.touched
    (λ place its. in_descriptor_is_work place (its.0, omega (arith, its.1))))
    middle (λ place work. work)
    (touches_put (λ address. is_work address ≡ true) _ buffer_at _ _ _ c.copy_in-2.ensures.touched
    (λ place its. in_buffer_is_work 4096 place (omega arith) (its.0, omega (arith, its.1)))))
