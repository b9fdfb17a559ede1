use Rattle.cfg_dma.proofs.WriteAwaited.{write_moves_on}
use Rattle.cfg_dma.proofs.laws.a_write_moves_on.Goals as goal

pub returns : goal.returns
returns c = write_moves_on
