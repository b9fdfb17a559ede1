use Rattle.std.proofs.Common.{◌<◌, length, refl, arith, ap, subst, sym, ◌∙◌}
use Rattle.vt_bytes.specs.Memory.{IsRam, IsMemory}
use Rattle.vt_bytes.proofs.Bytes.{length-bytes_at, bytes_at-none}
use Rattle.guest_memory.specs.Store.{IsPlaceOf, filled_of}
use Rattle.guest_memory.specs.Touched.{HeldMemory}
use Rattle.guest_memory.proofs.Held.{lawful_held, part_held, place_within, same_room}
use Rattle.guest_memory.proofs.Laid.{part_in_frame, length-all_bytes}
use Rattle.guest_memory.proofs.Lent.{lent_none, lent_part}
use Rattle.guest_memory.proofs.memory.GuestMemory.window_mut.Goals as goal

pub window_mut-requires-clause-some : goal.window_mut-requires-clause-some
window_mut-requires-clause-some c =
    let ram = subst (λ (h : HeldMemory). IsRam h.memory.top c.args.address) (sym c.self.view_is) c.requires.ram in
    let is : IsPlaceOf c.self.inside.top c.args.address c.place_of-place.result =
    record { low = c.place_of-place.ensures.low; high = c.place_of-place.ensures.high } in
    omega (arith, place_within c.self.inside.top c.args.address c.place_of-place.result c.self.invariant.0 ram is)

pub window_mut-requires-clause-within : goal.window_mut-requires-clause-within
window_mut-requires-clause-within c =
    let ram = subst (λ (h : HeldMemory). IsRam h.memory.top c.args.address) (sym c.self.view_is) c.requires.ram in
    let is : IsPlaceOf c.self.inside.top c.args.address c.place_of-place.result =
    record { low = c.place_of-place.ensures.low; high = c.place_of-place.ensures.high } in
    omega (arith, same_room c.self.inside.top c.args.address c.place_of-place.result c.self.invariant.0 ram is, c.requires.frame)

pub returns-then-len-eq0 : goal.returns-then-len-eq0
returns-then-len-eq0 c =
    let s = c.self.inside.store in let held = c.args.self.now in
    let value = c.nothing_mut.ensures.value ∙ bytes_at-none held.memory c.args.address c.args.len c.if-len-eq0.true in (
      (refl, λ w. c.self.view_is ∙ lent_none held c.args.address c.args.len w c.if-len-eq0.true),
      record {
        lends = tt;
        value = value;
        len = ap length value ∙ length-bytes_at held.memory c.args.address c.args.len;
        lawful = subst (λ (h : HeldMemory). IsMemory h.memory) c.self.view_is
            (lawful_held c.self.inside.top (filled_of s) c.self.invariant.0 (length-all_bytes s.fill s.frames c.self.invariant.1));
      },
    )

pub returns : goal.returns
returns c =
    let s = c.self.inside.store in let top = c.self.inside.top in let place = c.place_of-place.result in let held = c.args.self.now in
    let some : 0 < c.args.len = omega (arith, c.if-len-eq0.false) in
    let ram = subst (λ (h : HeldMemory). IsRam h.memory.top c.args.address) (sym c.self.view_is) c.requires.ram in
    let is : IsPlaceOf top c.args.address place = record { low = c.place_of-place.ensures.low; high = c.place_of-place.ensures.high } in
    let same = same_room top c.args.address place c.self.invariant.0 ram is in
    let within = place_within top c.args.address place c.self.invariant.0 ram is in
    let size = length-all_bytes s.fill s.frames c.self.invariant.1 in
    let value = c.window_mut.ensures.value ∙ part_in_frame s.fill s.frames place c.args.len c.self.invariant.1 within (omega (arith, same, c.requires.frame))
    ∙ part_held top (filled_of s) held.memory c.args.address c.args.len place (ap (λ (h : HeldMemory). h.memory) c.self.view_is)
    c.self.invariant.0 size ram is c.requires.frame in (
      (refl, λ w. lent_part top s held c.args.address c.args.len place w c.self.view_is c.self.invariant.0 c.self.invariant.1 ram is some c.requires.frame),
      record {
        lends = tt;
        value = value;
        len = ap length value ∙ length-bytes_at held.memory c.args.address c.args.len;
        lawful = subst (λ (h : HeldMemory). IsMemory h.memory) c.self.view_is (lawful_held top (filled_of s) c.self.invariant.0 size);
      },
    )
