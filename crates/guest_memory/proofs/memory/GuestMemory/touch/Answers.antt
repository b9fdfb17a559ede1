use Rattle.std.proofs.Common.{◌≡◌, ℕ, [], ◌∷◌, length, take, length-take, arith, ap, ◌∙◌}
use Rattle.guest_memory.specs.Touched.{touched_at}
use Rattle.guest_memory.proofs.memory.GuestMemory.touch.Goals as goal

pub put_again-requires : goal.put_again-requires
put_again-requires c i below = c.requires.ram i (omega (arith, length-take {A = ℕ} c.from.result (0 ∷ 0 ∷ 0 ∷ 0 ∷ 0 ∷ 0 ∷ 0 ∷ 0 ∷ []), c.from.ensures))

pub returns-clause-touched : goal.returns-clause-touched
returns-clause-touched c =
    let held = c.args.self.now in
    let size : length (take c.from.result (0 ∷ 0 ∷ 0 ∷ 0 ∷ 0 ∷ 0 ∷ 0 ∷ 0 ∷ [])) ≡ c.args.size =
    omega (arith, length-take {A = ℕ} c.from.result (0 ∷ 0 ∷ 0 ∷ 0 ∷ 0 ∷ 0 ∷ 0 ∷ 0 ∷ []), c.from.ensures, c.requires.size) in
    c.put_again.ensures.touched ∙ ap (λ n. touched_at held.memory.top c.args.address n held.touched) size
