use Rattle.vt_bytes.proofs.Memories.{others_with}
use Rattle.vt_bytes.proofs.laws.other_bytes_stay.Goals as goal

pub returns : goal.returns
returns c = others_with
