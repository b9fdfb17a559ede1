use Rattle.blob_holes.proofs.PartRows.{canonical, bytes_alone, stand_size, stand_fit}
use Rattle.blob_holes.proofs.laws.rows_stand_for_their_parts.Goals as goal

pub returns : goal.returns
returns c = record { canonical = canonical; bytes = bytes_alone; size = stand_size; fit = stand_fit }
