use Rattle.std.proofs.Common.{◌≡◌, ◌+◌, ◌-◌, ◌*◌, ◌≤◌, List, length, drop}
use Rattle.aml_terms.specs.Trees.{Tree}
use Rattle.aml_terms.specs.Reading.{value_at, all_in}
use Rattle.aml_decode.specs.Kept.{IsKept}
use Rattle.aml_decode.proofs.Each.{with_front}
use Rattle.aml_decode.proofs.values.+values.Given as goal

abbrev pub decreases-read_value : goal.decreases-read_value
decreases-read_value l = 6 * l.room + 2

abbrev pub decreases-value_behind : goal.decreases-value_behind
decreases-value_behind l = 6 * l.room + 1

abbrev pub decreases-read_package : goal.decreases-read_package
decreases-read_package l = 6 * l.room

abbrev pub decreases-enclosed_package : goal.decreases-enclosed_package
decreases-enclosed_package l = 6 * l.room + 5

abbrev pub decreases-package_in : goal.decreases-package_in
decreases-package_in l = 6 * l.room + 4

abbrev pub decreases-read_values : goal.decreases-read_values
decreases-read_values l = 6 * l.room + 3

-- the values so far, before those that are still to come, are all
abbrev pub invariant-read_values-loop-size : goal.invariant-read_values-loop-size
invariant-read_values-loop-size l =
    record {
      all : (trees : List Tree) × IsKept l.kept trees
          × (with_front trees (all_in (value_at l.room) (l.place + l.size) (drop l.size l.text)) ≡ all_in (value_at l.room) l.place l.text);
      within : l.size ≤ length l.text;
      few : l.kept.count ≤ l.size;
    }

abbrev pub decreases-read_values-loop-size : goal.decreases-read_values-loop-size
decreases-read_values-loop-size l = length l.text - l.size
