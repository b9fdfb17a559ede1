use Rattle.std.proofs.Common.{subst}
use Rattle.raw_frames.specs.Block.{AreFrames}
use Rattle.guest_memory.specs.Store.{Stored}
use Rattle.guest_memory.proofs.store.Store.fill.Goals as goal

pub returns-clause-lawful : goal.returns-clause-lawful
returns-clause-lawful c = subst (λ (h : Stored). AreFrames h.frames) c.self.view_is c.self.invariant.all
