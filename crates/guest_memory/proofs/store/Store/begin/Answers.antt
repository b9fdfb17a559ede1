use Rattle.std.proofs.Common.{ℕ, List, Option, None, map, sym, ap, subst, ◌∙◌}
use Rattle.std.proofs.lemmas.List.{length-replicate}
use Rattle.raw_frames.specs.Block.{AreFrames}
use Rattle.guest_memory.specs.Store.{is_filled}
use Rattle.raw_frames.proofs.FrameLemmas.{each-empty}
use Rattle.guest_memory.proofs.StoreFlags.{no_flags}
use Rattle.guest_memory.proofs.store.Store.begin.Goals as goal

pub invariant_of-result : goal.invariant_of-result
invariant_of-result c =
    let none : Option (List ℕ) = None in let frames = c.in_ok-begin.ensures in
    record {
      fills = c.in_ok-vec.ensures.items_if_clones_equal (λ y e. e);
      tells = c.in_ok-vec-2.ensures.items_if_clones_equal (λ y e. e) ∙ no_flags 8448 ∙ ap (map is_filled) (sym frames);
      all = subst AreFrames (sym frames) (record { count = length-replicate 8448 none; each = each-empty 8448 });
    }
