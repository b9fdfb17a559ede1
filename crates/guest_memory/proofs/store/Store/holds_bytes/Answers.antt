use Rattle.std.proofs.Common.{◌≡◌, ◌<◌, ℕ, None, get_or, length, slice_index, arith, refl, subst, ◌∙◌}
use borrow.Author.Count.{below_more}
use Rattle.std.proofs.lemmas.List.{take_all}
use Rattle.vt_bytes.proofs.Each.{each_at}
use Rattle.raw_frames.specs.Block.{IsFrame}
use Rattle.guest_memory.specs.Store.{in_frame}
use Rattle.guest_memory.proofs.Laid.{length-or_blank}
use Rattle.guest_memory.proofs.store.Store.holds_bytes.Goals as goal

pub loop-frame-preserved : goal.loop-frame-preserved
loop-frame-preserved c k i below =
    let s = c.args.self.now in let frame = c.loop-frame.frame in let are = c.fill-fill.ensures.lawful in
    let own = get_or s.frames frame None in
    let is : IsFrame own = each_at IsFrame s.frames frame None own (omega (arith, are.count, c.loop-frame-test.true)) refl are.each in
    let size : length (in_frame s frame) ≡ 4096 = length-or_blank s.fill own is in
    let all : c.window.result.now ≡ in_frame s frame = c.window.ensures.value ∙ take_all 4096 (in_frame s frame) (omega (arith, size)) in
    below_more (λ n. (j : ℕ) → slice_index (in_frame s n) j < 256) frame (λ n less j. c.loop-frame.invariant n j less)
    (λ j. subst (λ bytes. slice_index bytes j < 256) all (c.are_bytes.ensures j)) k below i
