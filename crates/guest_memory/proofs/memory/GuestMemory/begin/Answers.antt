use Rattle.std.proofs.Common.{◌≡◌, zero, suc, refl, ℕ, List, Option, None, replicate, get_or, slice_index, sym, ap, subst, ◌∙◌}
use Rattle.std.proofs.lemmas.List.{length-replicate}
use Rattle.raw_frames.specs.Block.{AreFrames}
use Rattle.raw_frames.proofs.FrameLemmas.{each-empty}
use Rattle.guest_memory.specs.Store.{filled_of, bytes_of, is_filled}
use Rattle.guest_memory.proofs.Held.{each_held, lawful_held}
use Rattle.guest_memory.proofs.Laid.{all_blank, length-all_bytes}
use Rattle.guest_memory.proofs.Touches.{flag_is}
use Rattle.guest_memory.proofs.memory.GuestMemory.begin.Goals as goal

are_frames : (frames : List (Option (List ℕ))) → frames ≡ replicate 8448 None → AreFrames frames
are_frames frames is =
    let none : Option (List ℕ) = None in
    subst AreFrames (sym is) (record { count = length-replicate 8448 none; each = each-empty 8448 })

same_at : (n k : ℕ) (x : Option (List ℕ)) → get_or (replicate n x) k x ≡ x
same_at zero k x = refl
same_at (suc n) zero x = refl
same_at (suc n) (suc k) x = same_at n k x

pub invariant_of-result : goal.invariant_of-result
invariant_of-result c = (c.requires, are_frames c.in_ok-store.store.frames c.in_ok-store.ensures.frames)

pub returns-clause-filled : goal.returns-clause-filled
returns-clause-filled c a ram =
    let s = c.in_ok-store.store in let is = c.in_ok-store.ensures.frames in
    each_held (λ byte. byte ≡ c.args.fill) c.args.top (filled_of s) c.requires (length-all_bytes s.fill s.frames (are_frames s.frames is))
    (λ place below. ap (λ frames. slice_index (bytes_of s.fill frames) place) is ∙ all_blank s.fill 8448 place below ∙ c.in_ok-store.ensures.fill) a ram

pub returns-clause-lawful : goal.returns-clause-lawful
returns-clause-lawful c =
    let s = c.in_ok-store.store in
    lawful_held c.args.top (filled_of s) c.requires (length-all_bytes s.fill s.frames (are_frames s.frames c.in_ok-store.ensures.frames))

pub returns-clause-untouched : goal.returns-clause-untouched
returns-clause-untouched c frame =
    let s = c.in_ok-store.store in
    flag_is s.frames frame ∙ ap is_filled (ap (λ frames. get_or frames frame None) c.in_ok-store.ensures.frames ∙ same_at 8448 frame None)
