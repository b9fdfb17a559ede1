use Rattle.std.proofs.Common.{◌≡◌, take}
use Rattle.blob_holes.specs.Rows.{unsummed}
use Rattle.blob_holes.specs.Parts.{part_rows}
use Rattle.blob_holes.proofs.append.append_parts.Given as goal

abbrev pub invariant-loop-part : goal.invariant-loop-part
invariant-loop-part l = l.blob ≡ unsummed l.fn.blob (part_rows (take l.part-index l.parts))
