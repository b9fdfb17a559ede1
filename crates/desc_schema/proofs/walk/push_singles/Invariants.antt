use Rattle.std.proofs.Common.{length, ◌-◌, ◌≡◌, drop}
use Rattle.toml.specs.View.{items_view}
use Rattle.desc_schema.specs.Form.{form_of}
use Rattle.desc_schema.specs.Walk.{after, singles}
use Rattle.desc_schema.proofs.walk.push_singles.Given as goal

abbrev pub invariant-loop-index : goal.invariant-loop-index
invariant-loop-index l =
    after l.progress.values (singles l.at (form_of l.scalar) (items_view (drop l.index l.nodes)) l.progress.positions)
    ≡ after l.fn.progress.values (singles l.at (form_of l.scalar) (items_view l.nodes) l.fn.progress.positions)

abbrev pub decreases-loop-index : goal.decreases-loop-index
decreases-loop-index l = length l.nodes - l.index
