use Rattle.cfg_dma.proofs.Started.{read_is_started}
use Rattle.cfg_dma.proofs.laws.a_read_is_started.Goals as goal

pub returns : goal.returns
returns c = read_is_started
