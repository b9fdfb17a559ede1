use Rattle.std.proofs.Common.{ℕ, List, slice_set, ap, ◌∙◌}
use Rattle.std.specs.List.{refill}
use Rattle.vt_bytes.specs.Memory.{bytes_at, with_bytes}
use Rattle.vt_bytes.proofs.Bytes.{bytes_at-one}
use Rattle.guest_memory.proofs.memory.GuestMemory.write.Goals as goal

pub returns-clause-after : goal.returns-clause-after
returns-clause-after c =
    let m = c.args.self.now.memory in let a = c.args.address in
    ap (λ (lent : List ℕ). with_bytes m a (refill 1 (bytes_at m a 1) (slice_set lent 0 c.args.byte))) (c.window_mut.ensures.value ∙ bytes_at-one m a)
