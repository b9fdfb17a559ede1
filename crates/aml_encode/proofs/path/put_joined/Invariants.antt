use Rattle.std.proofs.Common.{◌≡◌, ◌++◌, drop}
use Rattle.aml_terms.specs.Paths.{joined}
use Rattle.aml_encode.specs.Appended.{Begins}
use Rattle.aml_encode.proofs.path.put_joined.Given as goal

-- the segments so far, and those to come
abbrev pub invariant-segments : goal.invariant-segments
invariant-segments l =
    record {
      all : l.into ++ joined (drop l.segment-index l.segments) ≡ l.fn.into ++ joined l.segments;
      kept : Begins l.fn.into l.into;
    }
