use Rattle.std.proofs.Common.{◌≡◌, take}
use Rattle.vt_layout.specs.Rows.{size}
use Rattle.blob_holes.specs.Parts.{part_rows}
use Rattle.blob_holes.proofs.part.size_of_parts.Given as goal

abbrev pub invariant-loop-part : goal.invariant-loop-part
invariant-loop-part l = l.total ≡ size (part_rows (take l.part-index l.parts))
