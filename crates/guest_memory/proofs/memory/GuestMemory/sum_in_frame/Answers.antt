use Rattle.std.proofs.Common.{arith, ap, sym, subst, ◌∙◌}
use Rattle.vt_bytes.specs.Numbers.{byte_sum}
use Rattle.vt_bytes.specs.Memory.{IsRam}
use Rattle.guest_memory.specs.Store.{IsPlaceOf, filled_of}
use Rattle.guest_memory.specs.Touched.{HeldMemory}
use Rattle.guest_memory.proofs.Held.{part_held, place_within, same_room}
use Rattle.guest_memory.proofs.Laid.{blank_part, part_in_frame, length-all_bytes}
use Rattle.guest_memory.proofs.Runs.{blank_summed}
use Rattle.guest_memory.proofs.StoreFlags.{empty_at}
use Rattle.guest_memory.proofs.memory.GuestMemory.sum_in_frame.Goals as goal

pub is_touched-requires : goal.is_touched-requires
is_touched-requires c =
    let ram = subst (λ (h : HeldMemory). IsRam h.memory.top c.args.address) (sym c.self.view_is) c.requires.ram in
    let is = subst (λ (h : HeldMemory). IsPlaceOf h.memory.top c.args.address c.place_of-frame.result) (sym c.self.view_is) c.place_of-frame.ensures in
    omega (arith, place_within c.self.inside.top c.args.address c.place_of-frame.result c.self.invariant.0 ram is)

pub returns-then-not-is_touched : goal.returns-then-not-is_touched
returns-then-not-is_touched c =
    let s = c.self.inside.store in let top = c.self.inside.top in let place = c.place_of-frame.result in let held = c.args.self.now in
    let ram = subst (λ (h : HeldMemory). IsRam h.memory.top c.args.address) (sym c.self.view_is) c.requires.ram in
    let is = subst (λ (h : HeldMemory). IsPlaceOf h.memory.top c.args.address place) (sym c.self.view_is) c.place_of-frame.ensures in
    let same = same_room top c.args.address place c.self.invariant.0 ram is in
    let within = place_within top c.args.address place c.self.invariant.0 ram is in
    let whole = c.if-len-eq-FRAME_BYTES.true in
    let empty = empty_at s.frames _ (sym c.is_touched.ensures ∙ c.if-not-is_touched.true) in
    let blank = blank_part s.fill s.frames place c.args.len empty (omega (arith, same, whole, c.requires.frame)) whole in
    let read = part_in_frame s.fill s.frames place c.args.len c.self.invariant.1 within (omega (arith, same, c.requires.frame))
    ∙ part_held top (filled_of s) held.memory c.args.address c.args.len place (ap (λ (h : HeldMemory). h.memory) c.self.view_is)
    c.self.invariant.0 (length-all_bytes s.fill s.frames c.self.invariant.1) ram is c.requires.frame in
    sym (blank_summed s.fill) ∙ ap byte_sum (sym blank ∙ read)
