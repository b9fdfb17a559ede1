use Rattle.cfg_dma.proofs.Pieces.{transfer_ends}
use Rattle.cfg_dma.proofs.laws.transfers_end.Goals as goal

pub returns : goal.returns
returns c = transfer_ends
