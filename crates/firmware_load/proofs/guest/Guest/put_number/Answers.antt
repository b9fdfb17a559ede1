use Rattle.std.proofs.Common.{◌≡◌, ◌≤◌, true, inl, arith, refl, ap}
use Rattle.std.proofs.lemmas.List.{length-take}
use Rattle.vt_bytes.specs.Memory.{Memory}
use Rattle.guest_memory.proofs.Touching.{touches_put}
use Rattle.load_states.specs.Guarded.{buffer_at, is_work}
use Rattle.load_states.proofs.Touching.{in_buffer_is_work}
use Rattle.firmware_load.proofs.Touching.{own_touched}
use Rattle.firmware_load.proofs.guest.Guest.put_number.Goals as goal

pub returns-clause-touches : goal.returns-clause-touches
returns-clause-touches c =
    let before = c.args.self.now in
    let few : c.args.size ≤ 8 = grind arith in
    own_touched (λ address. is_work address ≡ true) before _ refl (ap (λ (m : Memory). m.top) c.copy_in.ensures.after) (λ address work. inl work)
    (touches_put (λ address. is_work address ≡ true) before.memory.memory.top buffer_at _ _ _ c.copy_in.ensures.touched
    (λ place its. in_buffer_is_work 8 place (omega arith) (its.0, omega (arith, its.1, length-take c.args.size c.put_le.new.bytes))))
