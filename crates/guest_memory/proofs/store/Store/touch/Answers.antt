use Rattle.std.proofs.Common.{◌≡◌, slice_set, true, get_or, Some, None, replicate, sym, ap, ◌∙◌, subst, arith}
use Rattle.std.proofs.lemmas.List.{length-replicate}
use Rattle.raw_frames.specs.Block.{AreFrames}
use Rattle.guest_memory.specs.Store.{Stored, IsStore, or_blank, in_frame}
use Rattle.guest_memory.proofs.StoreFlags.{told, empty_at, flags-set, frames-set}
use Rattle.guest_memory.proofs.store.Store.touch.Goals as goal

pub invariant_of-self : goal.invariant_of-self
invariant_of-self c =
    let s = c.self.inside in let i = c.args.frame in let inv = c.self.invariant in let bytes = replicate 4096 s.fill in
    let made : c.fill.new.self ≡ slice_set s.frames i (Some bytes) = c.fill.ensures in
    subst (λ frames. IsStore s.fill s.blank.items (slice_set s.flags.items i true) frames) (sym made)
    (record {
      fills = inv.fills;
      tells = ap (λ l. slice_set l i true) inv.tells
          ∙ flags-set s.frames i bytes;
      all = frames-set s.frames i bytes inv.all (length-replicate 4096 s.fill);
    })

pub returns-then-not-index-clause-frames : goal.returns-then-not-index-clause-frames
returns-then-not-index-clause-frames c =
    let s = c.self.inside in let i = c.args.frame in let inv = c.self.invariant in
    let empty : get_or s.frames i None ≡ None = empty_at s.frames i (told s.frames s.flags.items i c.index.result.now inv.tells
    (omega (arith, inv.all.count, c.requires)) c.index.ensures ∙ c.if-not-index.true) in
    c.fill.ensures ∙ ap (λ f. slice_set s.frames i (Some (or_blank s.fill f))) (sym empty)
    ∙ ap (λ (h : Stored). slice_set h.frames i (Some (in_frame h i))) c.self.view_is

pub returns-then-not-index-clause-lawful : goal.returns-then-not-index-clause-lawful
returns-then-not-index-clause-lawful c =
    let s = c.self.inside in let i = c.args.frame in
    subst AreFrames (sym c.fill.ensures) (frames-set s.frames i (replicate 4096 s.fill) c.self.invariant.all (length-replicate 4096 s.fill))
