use Rattle.std.proofs.Common.{ℕ, [], ◌∷◌, length-take, arith}
use Rattle.guest_memory.proofs.memory.GuestMemory.number_at.Goals as goal

pub copy_out-requires : goal.copy_out-requires
copy_out-requires c i below = c.requires.ram i (omega (arith, length-take {A = ℕ} c.from-size.result (0 ∷ 0 ∷ 0 ∷ 0 ∷ 0 ∷ 0 ∷ 0 ∷ 0 ∷ [])))
