use Rattle.std.proofs.Common.{◌≡◌, ℕ, ◌<◌, List, set, length, get_or, Option, Some, None, refl, ap, ◌∙◌, arith, length-set}
use Rattle.std.specs.List.{refill}
use Rattle.vt_bytes.specs.Parts.{part, put_at}
use Rattle.raw_frames.specs.Windows.{bytes_in, frame_at}
use Rattle.guest_memory.specs.Store.{Stored, in_frame}
use Rattle.raw_frames.proofs.FrameLemmas.{frame_size, length-window}
use Rattle.guest_memory.proofs.StoreFlags.{get_set, set_twice, frames-set, flags_stay}
use Rattle.guest_memory.proofs.store.Store.window_mut.Goals as goal

pub window_mut-requires-clause-filled : goal.window_mut-requires-clause-filled
window_mut-requires-clause-filled c =
    let s = c.self.inside in let h = c.args.self.now in let i = c.args.frame in let x = Some (in_frame h i) in
    let sets : s.frames ≡ set h.frames i x = ap (λ (k : Stored). k.frames) c.self.view_is ∙ c.touch.ensures.frames in
    let inside : i < length h.frames = omega (arith, c.self.invariant.all.count, ap length sets, length-set h.frames i x, c.requires.some) in
    (in_frame h i, ap (λ l. get_or l i None) sets ∙ get_set h.frames i x inside)

pub invariant_of-self-lent : goal.invariant_of-self-lent
invariant_of-self-lent c = λ w.
    let s = c.self.inside in let h = c.args.self.now in let i = c.args.frame in let x = Some (in_frame h i) in let inv = c.self.invariant in
    let sets : s.frames ≡ set h.frames i x = ap (λ (k : Stored). k.frames) c.self.view_is ∙ c.touch.ensures.frames in
    let inside : i < length h.frames = omega (arith, inv.all.count, ap length sets, length-set h.frames i x, c.requires.some) in
    let filled : get_or s.frames i None ≡ x = ap (λ l. get_or l i None) sets ∙ get_set h.frames i x inside in
    let old = frame_at s.frames i in
    let size : length old ≡ 4096 = frame_size s.frames i (in_frame h i) inv.all.each filled in
    let bytes = put_at old c.args.place (refill c.args.len (part old c.args.place c.args.len) w) in
    record {
      fills = inv.fills;
      tells = inv.tells
          ∙ flags_stay s.frames i (in_frame h i) bytes filled;
      all =
          frames-set s.frames i bytes inv.all (length-window old c.args.place c.args.len w (omega (arith, size, c.requires.within)) ∙ size);
    }

pub returns : goal.returns
returns c =
    let s = c.self.inside in let h = c.args.self.now in let i = c.args.frame in let p = c.args.place in let n = c.args.len in
    let x = Some (in_frame h i) in let inv = c.self.invariant in
    let sets : s.frames ≡ set h.frames i x = ap (λ (k : Stored). k.frames) c.self.view_is ∙ c.touch.ensures.frames in
    let fill : s.fill ≡ h.fill = ap (λ (k : Stored). k.fill) c.self.view_is ∙ c.touch.ensures.fill in
    let inside : i < length h.frames = omega (arith, inv.all.count, ap length sets, length-set h.frames i x, c.requires.some) in
    let is : frame_at s.frames i ≡ in_frame h i = ap bytes_in (ap (λ l. get_or l i None) sets ∙ get_set h.frames i x inside) in
    let left : List ℕ → List ℕ → Option (List ℕ) = λ w y. Some (put_at y p (refill n (part y p n) w)) in
    let frames : (w : List ℕ) → set s.frames i (left w (frame_at s.frames i)) ≡ set h.frames i (left w (in_frame h i)) =
    λ w. ap (λ y. set s.frames i (left w y)) is ∙ ap (λ l. set l i (left w (in_frame h i))) sets ∙ set_twice h.frames i x (left w (in_frame h i)) in (
      (refl, λ w. λ j. record { fill = fill j; frames = frames w j }),
      record { lends = tt; value = c.window_mut.ensures.value ∙ ap (λ y. part y p n) is; len = c.window_mut.ensures.len },
    )
