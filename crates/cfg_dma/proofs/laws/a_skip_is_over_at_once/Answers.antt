use Rattle.cfg_dma.proofs.WriteStarted.{skip_is_over}
use Rattle.cfg_dma.proofs.laws.a_skip_is_over_at_once.Goals as goal

pub returns : goal.returns
returns c = skip_is_over
