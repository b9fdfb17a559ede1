use Rattle.std.proofs.Common.{ap, subst, sym, ◌∙◌}
use Rattle.guest_memory.specs.Frames.{HoldsFill}
use Rattle.guest_memory.specs.Touched.{HeldMemory, is_touched}
use Rattle.guest_memory.proofs.Lent.{holds_fill}
use Rattle.guest_memory.proofs.StoreFlags.{empty_at}
use Rattle.guest_memory.proofs.Touches.{flag_is}
use Rattle.guest_memory.proofs.memory.GuestMemory.touched.Goals as goal

pub returns-clause-told : goal.returns-clause-told
returns-clause-told c =
    c.is_touched.ensures ∙ sym (flag_is c.self.inside.store.frames c.args.frame) ∙ ap (λ (h : HeldMemory). is_touched h.touched c.args.frame) c.self.view_is

pub returns-clause-blank : goal.returns-clause-blank
returns-clause-blank c none =
    let s = c.self.inside.store in
    subst (λ (h : HeldMemory). HoldsFill h.memory c.args.frame) c.self.view_is
    (holds_fill c.self.inside.top s c.args.frame c.self.invariant.0 c.self.invariant.1 c.requires
    (empty_at s.frames c.args.frame (sym c.is_touched.ensures ∙ none)))
