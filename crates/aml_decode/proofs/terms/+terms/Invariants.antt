use Rattle.std.proofs.Common.{◌≡◌, ◌+◌, ◌-◌, ◌*◌, ◌≤◌, length, map, drop}
use Rattle.aml_terms.specs.Trees.{view}
use Rattle.aml_terms.specs.Reading.{term_at, all_in}
use Rattle.aml_decode.proofs.Each.{with_front}
use Rattle.aml_decode.proofs.terms.+terms.Given as goal

abbrev pub decreases-read_terms : goal.decreases-read_terms
decreases-read_terms l = 8 * l.room + 4

abbrev pub decreases-read_term : goal.decreases-read_term
decreases-read_term l = 8 * l.room + 3

abbrev pub decreases-term_behind : goal.decreases-term_behind
decreases-term_behind l = 8 * l.room + 2

abbrev pub decreases-read_scope : goal.decreases-read_scope
decreases-read_scope l = 8 * l.room + 1

abbrev pub decreases-read_device : goal.decreases-read_device
decreases-read_device l = 8 * l.room + 1

abbrev pub decreases-read_inside : goal.decreases-read_inside
decreases-read_inside l = 8 * l.room

abbrev pub decreases-enclosed_contents : goal.decreases-enclosed_contents
decreases-enclosed_contents l = 8 * l.room + 6

abbrev pub decreases-contents_in : goal.decreases-contents_in
decreases-contents_in l = 8 * l.room + 5

-- the terms so far, before those that are still to come, are all
abbrev pub invariant-read_terms-loop-size : goal.invariant-read_terms-loop-size
invariant-read_terms-loop-size l =
    record {
      all : with_front (map view l.terms) (all_in (term_at l.room) (l.place + l.size) (drop l.size l.text)) ≡ all_in (term_at l.room) l.place l.text;
      within : l.size ≤ length l.text;
    }

abbrev pub decreases-read_terms-loop-size : goal.decreases-read_terms-loop-size
decreases-read_terms-loop-size l = length l.text - l.size
