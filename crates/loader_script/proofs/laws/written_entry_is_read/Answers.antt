use Rattle.loader_script.proofs.ReadAgain.{entry-again}
use Rattle.loader_script.proofs.laws.written_entry_is_read.Goals as goal

pub returns : goal.returns
returns c = entry-again
