use Rattle.std.proofs.Common.{subst}
use Rattle.vt_bytes.specs.Memory.{IsMemory}
use Rattle.guest_memory.specs.Store.{filled_of}
use Rattle.guest_memory.specs.Touched.{HeldMemory, IsHeld}
use Rattle.guest_memory.proofs.Held.{lawful_held}
use Rattle.guest_memory.proofs.Laid.{length-all_bytes}
use Rattle.guest_memory.proofs.Lent.{is_held_memory}
use Rattle.guest_memory.proofs.memory.GuestMemory.top.Goals as goal

pub returns-clause-lawful : goal.returns-clause-lawful
returns-clause-lawful c =
    let s = c.self.inside.store in
    subst (λ (h : HeldMemory). IsMemory h.memory) c.self.view_is
    (lawful_held c.self.inside.top (filled_of s) c.self.invariant.0 (length-all_bytes s.fill s.frames c.self.invariant.1))

pub returns-clause-held : goal.returns-clause-held
returns-clause-held c = subst IsHeld c.self.view_is (is_held_memory c.self.inside.top c.self.inside.store c.self.invariant.0 c.self.invariant.1)
