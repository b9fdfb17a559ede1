use Rattle.vt_bytes.proofs.Memories.{bytes_with}
use Rattle.vt_bytes.proofs.laws.bytes_are_where_they_were_put.Goals as goal

pub returns : goal.returns
returns c = bytes_with
