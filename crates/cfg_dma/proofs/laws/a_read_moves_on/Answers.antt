use Rattle.cfg_dma.proofs.Awaited.{read_moves_on}
use Rattle.cfg_dma.proofs.laws.a_read_moves_on.Goals as goal

pub returns : goal.returns
returns c = read_moves_on
