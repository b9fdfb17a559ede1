use Rattle.std.proofs.Common.{length, arith, ap, subst, sym, ◌∙◌}
use Rattle.vt_bytes.specs.Memory.{IsRam}
use Rattle.vt_bytes.proofs.Bytes.{length-bytes_at}
use Rattle.guest_memory.specs.Store.{IsPlaceOf, filled_of}
use Rattle.guest_memory.specs.Touched.{HeldMemory}
use Rattle.guest_memory.proofs.Held.{part_held, place_within, same_room}
use Rattle.guest_memory.proofs.Laid.{part_in_frame, length-all_bytes}
use Rattle.guest_memory.proofs.memory.GuestMemory.window.Goals as goal

pub window-requires-clause-some : goal.window-requires-clause-some
window-requires-clause-some c =
    let ram = subst (λ (h : HeldMemory). IsRam h.memory.top c.args.address) (sym c.self.view_is) c.requires.ram in
    let is = subst (λ (h : HeldMemory). IsPlaceOf h.memory.top c.args.address c.place_of-place.result) (sym c.self.view_is) c.place_of-place.ensures in
    omega (arith, place_within c.self.inside.top c.args.address c.place_of-place.result c.self.invariant.0 ram is)

pub window-requires-clause-within : goal.window-requires-clause-within
window-requires-clause-within c =
    let ram = subst (λ (h : HeldMemory). IsRam h.memory.top c.args.address) (sym c.self.view_is) c.requires.ram in
    let is = subst (λ (h : HeldMemory). IsPlaceOf h.memory.top c.args.address c.place_of-place.result) (sym c.self.view_is) c.place_of-place.ensures in
    let same = same_room c.self.inside.top c.args.address c.place_of-place.result c.self.invariant.0 ram is in
    omega (arith, same, c.requires.frame)

pub returns : goal.returns
returns c =
    let s = c.self.inside.store in let top = c.self.inside.top in let place = c.place_of-place.result in let held = c.args.self.now in
    let ram = subst (λ (h : HeldMemory). IsRam h.memory.top c.args.address) (sym c.self.view_is) c.requires.ram in
    let is = subst (λ (h : HeldMemory). IsPlaceOf h.memory.top c.args.address place) (sym c.self.view_is) c.place_of-place.ensures in
    let same = same_room top c.args.address place c.self.invariant.0 ram is in
    let within = place_within top c.args.address place c.self.invariant.0 ram is in
    let value = c.window.ensures.value ∙ part_in_frame s.fill s.frames place c.args.len c.self.invariant.1 within (omega (arith, same, c.requires.frame))
    ∙ part_held top (filled_of s) held.memory c.args.address c.args.len place (ap (λ (h : HeldMemory). h.memory) c.self.view_is)
    c.self.invariant.0 (length-all_bytes s.fill s.frames c.self.invariant.1) ram is c.requires.frame in
    record { value = value; len = ap length value ∙ length-bytes_at held.memory c.args.address c.args.len }
