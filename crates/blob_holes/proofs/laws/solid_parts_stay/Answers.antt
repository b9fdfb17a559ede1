use Rattle.blob_holes.proofs.Fill.{solid_part}
use Rattle.blob_holes.proofs.laws.solid_parts_stay.Goals as goal

pub returns : goal.returns
returns c = solid_part
