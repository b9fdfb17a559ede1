use Rattle.cfg_dma.proofs.WriteStarted.{write_is_started}
use Rattle.cfg_dma.proofs.laws.a_write_is_started.Goals as goal

pub returns : goal.returns
returns c = write_is_started
