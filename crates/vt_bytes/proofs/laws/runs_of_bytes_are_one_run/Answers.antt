use Rattle.vt_bytes.proofs.Memories.{with_both}
use Rattle.vt_bytes.proofs.laws.runs_of_bytes_are_one_run.Goals as goal

pub returns : goal.returns
returns c = with_both
