use Rattle.std.proofs.Common.{◌≡◌, ◌+◌, ◌-◌, ◌≤◌, length, drop}
use Rattle.aml_terms.specs.Reading.{segments_at}
use Rattle.aml_decode.proofs.Segments.{with_segments}
use Rattle.aml_decode.proofs.path.read_segments.Given as goal

-- those so far, before those that are still to come, are all
abbrev pub invariant-loop-index : goal.invariant-loop-index
invariant-loop-index l =
    record {
      all : with_segments l.segments l.size (segments_at (l.count - l._index) (l.place + l.size) (drop l.size l.text)) ≡ segments_at l.count l.place l.text;
      within : l.size ≤ length l.text;
    }
