use Rattle.std.proofs.Common.{◌≡◌, ◌++◌, ◌<◌, ℕ, List, Option, None, length, drop, replicate, arith, ap, add-one, sym, ◌∙◌}
use Rattle.std.specs.List.{slice_set}
use Rattle.std.proofs.lemmas.List.{length-append, length-drop, length-replicate}
use Rattle.command_acts.proofs.Placings.{nowhere_more}
use Rattle.command_acts.proofs.placements.put_nowhere.Goals as goal

pub loop-index-preserved : goal.loop-index-preserved
loop-index-preserved c =
    let old = c.args.places.now.items in
    let index = c.loop-index.index in
    let sizes : index < length old = omega (
      arith,
      ap length c.loop-index.invariant.front,
      length-append (replicate {A = Option ℕ} index None) (drop index old),
      length-replicate {A = Option ℕ} index None,
      length-drop index old,
      c.loop-index.invariant.within,
      c.loop-index.places.ok.0,
      c.loop-index-test.true,
      c.len.ensures,
    ) in
    record {
      front = ap (λ (places : List (Option ℕ)). slice_set places index None) c.loop-index.invariant.front
          ∙ nowhere_more old index sizes
          ∙ ap (λ n. replicate {A = Option ℕ} n None ++ drop n old) (sym (add-one index));
      within = omega (arith, sizes);
    }
