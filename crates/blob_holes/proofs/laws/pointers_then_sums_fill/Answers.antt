use Rattle.blob_holes.proofs.Fill.{filled}
use Rattle.blob_holes.proofs.laws.pointers_then_sums_fill.Goals as goal

pub returns : goal.returns
returns c = filled
