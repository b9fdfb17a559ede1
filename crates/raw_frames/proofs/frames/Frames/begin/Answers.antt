-- What `take` gives is a block whose frames are all empty. It is shown for any number of frames, and no list of 8,448 is written out.
use Rattle.std.proofs.Common.{ℕ, List, Option, None, length, sym, ap, subst, ◌∙◌}
use Rattle.std.proofs.lemmas.List.{length-replicate}
use Rattle.std.specs.List.{AllByRecursion}
use Rattle.raw_frames.specs.Block.{IsFrame}
use Rattle.raw_frames.proofs.FrameLemmas.{each-empty}
use Rattle.raw_frames.proofs.frames.Frames.begin.Goals as goal

pub invariant_of-result : goal.invariant_of-result
invariant_of-result c =
    let made = c.in_ok-start.ensures in let none : Option (List ℕ) = None in
    record {
      at = made.0;
      frames = record { count = ap length made.1 ∙ length-replicate 8448 none; each = subst (AllByRecursion IsFrame) (sym made.1) (each-empty 8448) };
      claim_at = made.2;
      claim_count = made.3;
      claim_alloc = made.4;
    }
