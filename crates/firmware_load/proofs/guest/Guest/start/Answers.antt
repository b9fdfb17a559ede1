use Rattle.std.proofs.Common.{◌≡◌, ℕ, true, length, inl, arith, refl, ap, subst, ◌∙◌}
use Rattle.vt_bytes.specs.Memory.{Memory}
use Rattle.guest_memory.proofs.Touching.{touches_put, touches_more}
use Rattle.cfg_dma.specs.Device.{DeviceState}
use Rattle.cfg_dma.specs.Events.{with_high, with_low}
use Rattle.cfg_dma.specs.Touching.{IsInDescriptor}
use Rattle.load_states.specs.Guarded.{descriptor_at, is_work}
use Rattle.load_states.proofs.Touching.{in_descriptor_is_work}
use Rattle.firmware_load.proofs.Touching.{own_touched}
use Rattle.firmware_load.proofs.guest.Guest.start.Goals as goal

-- the address register then holds the descriptor's address
register_is : (address : ℕ) → with_low (with_high address 0) descriptor_at ≡ descriptor_at
register_is address = omega arith

pub returns-clause-touches : goal.returns-clause-touches
returns-clause-touches c =
    let before = c.args.self.now in
    let its_top = before.memory.memory.top in
    let middle : c.copy_in.new.self.memory.top ≡ its_top = ap (λ (m : Memory). m.top) c.copy_in.ensures.after in
    let register : with_low c.write_address_high.new.self.address descriptor_at ≡ descriptor_at =
    ap (λ (d : DeviceState). with_low d.address descriptor_at) c.write_address_high.ensures ∙ register_is before.device.address in
    own_touched (λ address. is_work address ≡ true) before _ refl (c.write_address_low.ensures.top ∙ middle) (λ address work. inl work)
    (touches_more (λ address. is_work address ≡ true) (IsInDescriptor (with_low c.write_address_high.new.self.address descriptor_at)) its_top _ _ _ _
    (touches_put (λ address. is_work address ≡ true) its_top descriptor_at _ _ _ c.copy_in.ensures.touched
    (λ place its. in_descriptor_is_work place (its.0, omega (arith, its.1, ap length c.descriptor-descriptor.ensures))))
    middle (λ place its. in_descriptor_is_work place (subst (λ (d : ℕ). IsInDescriptor d place) register its)) c.write_address_low.ensures.touches)
