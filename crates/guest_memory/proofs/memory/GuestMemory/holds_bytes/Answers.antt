use Rattle.std.proofs.Common.{◌≡◌, ◌+◌, ◌*◌, ◌/◌, ◌%◌, ◌<◌, slice_index, arith, ap, subst, sym, ◌∙◌}
use Rattle.guest_memory.specs.Bytes.{HoldsBytes}
use Rattle.guest_memory.specs.Store.{filled_of, bytes_of}
use Rattle.guest_memory.specs.Touched.{HeldMemory}
use Rattle.guest_memory.proofs.Held.{each_held}
use Rattle.guest_memory.proofs.Laid.{byte_in_frame, length-all_bytes}
use Rattle.guest_memory.proofs.memory.GuestMemory.holds_bytes.Goals as goal

pub returns : goal.returns
returns c =
    let s = c.self.inside.store in
    subst (λ (h : HeldMemory). HoldsBytes h.memory) c.self.view_is (record {
      fill = c.holds_bytes.ensures.fill;
      each = each_held (λ byte. byte < 256) c.self.inside.top (filled_of s) c.self.invariant.0 (length-all_bytes s.fill s.frames c.self.invariant.1)
          (λ place below.
          let at : 4096 * (place / 4096) + place % 4096 ≡ place = omega arith in
          let is = byte_in_frame s.fill s.frames (place / 4096) (place % 4096) c.self.invariant.1 (omega arith) (omega arith) in
          subst (λ byte. byte < 256) (sym is ∙ ap (slice_index (bytes_of s.fill s.frames)) at)
          (c.holds_bytes.ensures.each (place / 4096) (place % 4096) (omega arith)));
    })
