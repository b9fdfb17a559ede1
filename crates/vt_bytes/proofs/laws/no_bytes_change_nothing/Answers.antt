use Rattle.vt_bytes.proofs.Memories.{with_none}
use Rattle.vt_bytes.proofs.laws.no_bytes_change_nothing.Goals as goal

pub returns : goal.returns
returns c = with_none
